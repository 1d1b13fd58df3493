-- The line that an answer and its row make is the rate's line: the factor call answers at each rate for a row of 16
-- places, which no accepted book has more members than; where it answers n the row's first n places are the factors,
-- and a refusal's number is not 0, so that its answer is negative.
use Rattle.std.proofs.Common.{◌≡◌, refl, sym, ap, ◌∙◌, ℕ, zero, suc, ◌+◌, ◌-◌, ◌*◌, ◌≤◌, ◌<◌, List, ◌++◌, arith}
use Rattle.std.proofs.Common.{ℤ, pos, neg_ℤ, length, get_or, take, drop}
use Rattle.std.specs.Prelude.{Ok, Err}
use Rattle.std.proofs.lemmas.List.{take_all, take_at, length-take-le, length-drop, get_or_append_left}
use Rattle.refusals.specs.Grounds.{first_met, Checked, answer_if, answer_number, written_if, refusal_number}
use Rattle.refusals.proofs.Numbers.{refusal_above_0}
use Rattle.book.specs.Fields.{members}
use Rattle.book.specs.Limits.{max_members}
use Rattle.balance.specs.Factors.{factor_grounds, factor_answer, factor_list, factors_at}
use Rattle.balance.proofs.Call.CallAnswers.{factors_length}
use Rattle.balance.proofs.Call.CallPasses.{call_passes}
use Rattle.balance.proofs.Promised.{filled_call, filled_count}
use Rattle.portfolios.specs.Rows.{rows_at, answers_at}
use Rattle.portfolios.specs.Run.{rates_run, rows_left, answers_left}
use Rattle.portfolios.specs.Promises.{row}
use Rattle.portfolios.proofs.Apart.{called_length, answers_length}
use Rattle.portfolios.proofs.Promised.{run_promises}
use Rattle.text.specs.Words.{ascii, decimal}
use Rattle.lines.specs.Lines.{answer_text, rate_line}
use Rattle.lines.specs.Private.Rows.{shown, line_of}

refused_shown : (n : ℕ) (own : List ℕ) → 0 < n → shown (neg_ℤ (pos n)) own ≡ ascii " refused " ++ decimal n
refused_shown zero own some = absurd (omega arith)
refused_shown (suc n) own some = refl

-- Row k, as the code takes it from the list of rows.
abbrev pub row_taken : ℕ → List ℕ → List ℕ
row_taken k list = take (max_members * (k + 1) - max_members * k) (drop (max_members * k) list)

row_taken_is : (k : ℕ) (list : List ℕ) → row_taken k list ≡ row max_members k list
row_taken_is k list =
    let width : max_members * (k + 1) - max_members * k ≡ max_members = omega arith in
    let start : max_members * k ≡ k * max_members = omega arith in
    ap (λ n. take n (drop (max_members * k) list)) width ∙ ap (λ n. take max_members (drop n list)) start

-- One call, for a row of so many places.
module _ (v : ℕ) (book own : List ℕ) where
  abbrev found : Checked
  found = first_met (factor_grounds v book (length own))

  whichever : (finds : Checked) → found ≡ finds →
      shown (answer_number (answer_if finds (members book))) (written_if finds (factors_at book v) own)
      ≡ answer_text (answer_if finds (members book)) (factors_at book v)
  whichever (Ok tt) passed =
      let size = factors_length book v (call_passes v book (length own) passed).accepted in
      rw (take_at (factors_at book v) (drop (length (factors_at book v)) own) (members book) size) refl
  whichever (Err refusal) refused = refused_shown (refusal_number refusal) own (refusal_above_0 refusal)

  call_shown :
      shown (answer_number (factor_answer v book (length own))) (factor_list v book own)
      ≡ answer_text (factor_answer v book (length own)) (factors_at book v)
  call_shown = whichever found refl

module _ (rates book : List ℕ) (answers : List ℤ) (rows : List ℕ)
    (lent : length rates ≤ length answers) (wide : max_members * length rates ≤ length rows)
    {given : List ℤ} {left : List ℕ}
    (answered : given ≡ answers_left rates book max_members answers rows)
    (filled : left ≡ rows_left rates book max_members answers rows)
    (k : ℕ) (l : k < length rates) where
  abbrev v : ℕ
  v = get_or rates k 0

  abbrev own : List ℕ
  own = row max_members k rows

  all_run : rates_run rates answers ≡ rates
  all_run = take_all (length answers) rates lent

  whole : length own ≡ max_members
  whole = length-take-le max_members (drop (k * max_members) rows) (omega (arith, length-drop (k * max_members) rows))

  answer_there : get_or given k (pos 0) ≡ answer_number (factor_answer v book (length own))
  answer_there =
      let size = answers_length max_members book rates rows in
      let rest = drop (length rates) answers in
      ap (λ list. get_or list k (pos 0)) answered
      ∙ ap (λ run. get_or (answers_at max_members book run rows ++ rest) k (pos 0)) all_run
      ∙ get_or_append_left (answers_at max_members book rates rows) rest (pos 0) k (omega arith)
      ∙ (run_promises.as_called max_members book rates rows k l).0

  row_there : row max_members k left ≡ factor_list v book own
  row_there =
      ap (row max_members k) (filled ∙ ap (λ run. rows_at max_members book run rows) all_run)
      ∙ (run_promises.as_called max_members book rates rows k l).1

  row_whole : length (row max_members k left) ≡ max_members
  row_whole = ap length row_there ∙ called_length v book own ∙ whole

  module _ {answer : ℤ} (is : answer ≡ get_or given k (pos 0)) where
    pub counted : (n : ℕ) → answer ≡ pos n → n ≤ length (row_taken k left)
    counted n e =
        let called = sym answer_there ∙ sym is ∙ e in
        let long = ap length (row_taken_is k left) ∙ row_whole in
        omega (arith, whole, (filled_call v book own called).enough, filled_count v book own called)

    pub line_there : line_of v answer (row_taken k left) ≡ rate_line book v
    line_there =
        rw (is ∙ answer_there, row_taken_is k left ∙ row_there, call_shown v book own, whole) refl
