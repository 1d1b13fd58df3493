-- What is promised of many rates: each row is what the factor call leaves at its rate, by one induction over the
-- rates, so the promises of one call and of two hold of each row and of two rows.
use Prim.Native.Nat.{ℕ, zero, suc, ◌+◌, ◌*◌, ◌≤◌, ◌<◌, min}
use native.Mathlib.Nat.{zero-mul, min_comm}
use native.Mathlib.Omega.{arith}
use mathlib.Core.Path.{◌≡◌, refl, ap, ap₂, sym, ◌∙◌}
use mathlib.Core.List.{List, [], ◌∷◌, ◌++◌}
use Rattle.std.specs.Prelude.{ℤ, pos}
use Rattle.std.proofs.lemmas.List.{length-append, length-take, length-drop, take_at, drop_at, take_min, drop_min}
use Rattle.std.proofs.lemmas.List.{get_or-take, get_or-drop, get_or_append_left}
use lib.ListN.{length, get_or, take, drop}
use Rattle.refusals.specs.Grounds.{answer_number}
use Rattle.book.specs.Fields.{members}
use Rattle.balance.specs.Factors.{factor_answer, factor_list}
use Rattle.balance.proofs.Promised.{filled_call, filled_count, list_promise, factor_promises}
use Rattle.portfolios.specs.Rows.{rows_at, answers_at}
use Rattle.portfolios.specs.Run.{rates_run, rows_left, answers_left}
use Rattle.portfolios.specs.Promises.{row, RowsPromise, RunPromises}
use Rattle.portfolios.proofs.Apart.{called_length, rows_length, answers_length, past_more}

-- A row and the rows past it are told apart by its width, which it fills where any are past it.
module _ (width v : ℕ) (book rates list : List ℕ) where
  abbrev first : List ℕ
  first = factor_list v book (take width list)

  abbrev later : List ℕ
  later = rows_at width book rates (drop width list)

  size : length first ≡ min width (length (first ++ later))
  size =
      let own = called_length v book (take width list) in
      let rest = rows_length width book rates (drop width list) in
      omega (arith, length-append first later, length-take width list, length-drop width list)

  first_row : take width (first ++ later) ≡ first
  first_row = sym (take_min width (first ++ later)) ∙ take_at first later _ size

  later_rows : drop width (first ++ later) ≡ later
  later_rows = sym (drop_min width (first ++ later)) ∙ drop_at first later _ size

  past_first : (n : ℕ) → drop (suc n * width) (first ++ later) ≡ drop (n * width) later
  past_first n = past_more width n (first ++ later) ∙ ap (drop (n * width)) later_rows

as_called : (width : ℕ) (book rates list : List ℕ) (k : ℕ) → k < length rates →
    (get_or (answers_at width book rates list) k (pos 0)
    ≡ answer_number (factor_answer (get_or rates k 0) book (length (row width k list))))
    × (row width k (rows_at width book rates list) ≡ factor_list (get_or rates k 0) book (row width k list))
unfolding rows_at answers_at
as_called width book [] list k l = absurd (omega arith)
as_called width book (v ∷ rates) list zero l =
    rw (zero-mul width) (refl, first_row width v book rates list)
as_called width book (v ∷ rates) list (suc k) l =
    rw (past_more width k list, past_first width v book rates list k)
    (as_called width book rates (drop width list) k (omega arith))

past_the_last : (width : ℕ) (book rates list : List ℕ) →
    drop (length rates * width) (rows_at width book rates list) ≡ drop (length rates * width) list
unfolding rows_at
past_the_last width book [] list = refl
past_the_last width book (v ∷ rates) list =
    let n = length rates in
    rw (past_more width n list, past_first width v book rates list n)
    (past_the_last width book rates (drop width list))

module _ (width : ℕ) (book rates list : List ℕ) where
  abbrev answers : List ℤ
  answers = answers_at width book rates list

  abbrev rows : List ℕ
  rows = rows_at width book rates list

  -- Row k, answered with n: the factor call answers n for it, and what that leaves stands in the row's places.
  module _ (k : ℕ) (l : k < length rates) {n : ℕ} (answered : get_or answers k (pos 0) ≡ pos n) where
    abbrev v : ℕ
    v = get_or rates k 0

    abbrev own : List ℕ
    own = row width k list

    called : answer_number (factor_answer v book (length own)) ≡ pos n
    called = sym (as_called width book rates list k l).0 ∙ answered

    count : members book ≡ n
    count = filled_count v book own called

    place : (i : ℕ) → i < n → get_or (factor_list v book own) i 0 ≡ get_or rows (k * width + i) 0
    place i within =
        let enough = (filled_call v book own called).enough in
        let counted = count in
        ap (λ left. get_or left i 0) (sym (as_called width book rates list k l).1)
        ∙ get_or-take width (drop (k * width) rows) i 0 (omega (arith, length-take width (drop (k * width) list)))
        ∙ get_or-drop (k * width) rows i 0

  of_each_row : RowsPromise rates book width answers rows
  of_each_row k n i l answered within =
      rw (← place k l answered i within)
      (list_promise (get_or rates k 0) book (row width k list) n i (called k l answered) within)

  of_two_rows : (j k n m i : ℕ) → j < length rates → k < length rates → get_or rates j 0 ≤ get_or rates k 0 →
      get_or answers j (pos 0) ≡ pos n → get_or answers k (pos 0) ≡ pos m → i < n →
      get_or rows (k * width + i) 0 ≤ get_or rows (j * width + i) 0
  of_two_rows j k n m i lower higher rises one other within =
      let there : i < m = omega (arith, count j lower one, count k higher other) in
      rw (← place j lower one i within, ← place k higher other i there)
      (factor_promises.of_two_lists (get_or rates j 0) (get_or rates k 0) book (row width j list) (row width k list)
      n m i rises (called j lower one) (called k higher other) within)

pub run_promises : RunPromises
run_promises =
    record {
      as_called = as_called;
      past_the_last = past_the_last;
      of_each_row = of_each_row;
      of_two_rows = of_two_rows;
    }

-- What the call leaves, by how many of the rates it runs: the answers there, and then what stood past the last rate's.
module _ (rates : List ℕ) (answers : List ℤ) {count : ℕ} (counted : count ≡ min (length rates) (length answers)) where
  run_is : take count rates ≡ rates_run rates answers
  run_is =
      ap (λ n. take n rates) (counted ∙ min_comm (length rates) (length answers)) ∙ take_min (length answers) rates

  module _ (book : List ℕ) (width : ℕ) (rows : List ℕ) where
    pub answers_as_defined : {given : List ℤ} → given ≡ answers_at width book (take count rates) rows →
        given ++ drop count answers ≡ answers_left rates book width answers rows
    answers_as_defined is =
        ap₂ (λ given rest. given ++ rest) (is ∙ ap (λ run. answers_at width book run rows) run_is)
        (ap (λ n. drop n answers) counted ∙ drop_min (length rates) answers)

    pub rows_as_defined : {left : List ℕ} → left ≡ rows_at width book (take count rates) rows →
        left ≡ rows_left rates book width answers rows
    rows_as_defined is = is ∙ ap (λ run. rows_at width book run rows) run_is

-- Of the lists that the call leaves: the answers at the rates that are run stand in front.
pub kept : (rates book : List ℕ) (width : ℕ) (answers : List ℤ) (rows : List ℕ) {given : List ℤ} {left : List ℕ} →
    given ≡ answers_left rates book width answers rows → left ≡ rows_left rates book width answers rows →
    RowsPromise (rates_run rates answers) book width given left
kept rates book width answers rows given left k n i l answered within =
    let run = rates_run rates answers in
    let size = answers_length width book run rows in
    let front =
    get_or_append_left (answers_at width book run rows) (drop (length rates) answers) (pos 0) k (omega arith)
    in
    rw left (of_each_row width book run rows k n i l (sym front ∙ (rw given at answered)) within)
