-- A run's next rates: one, answered as by the factor call; or four that are accepted, each of whose answers is then the
-- count of members.
use Prim.Native.Nat.{ℕ, ◌*◌, ◌≤◌, ◌<◌}
use native.Mathlib.Nat.{one-mul}
use native.Mathlib.Omega.{arith}
use mathlib.Core.Path.{◌≡◌, refl, ap}
use mathlib.Core.List.{List, [], ◌∷◌, ◌++◌}
use Rattle.std.specs.Prelude.{ℤ, pos}
use Rattle.std.proofs.lemmas.List.{append-nil, length-take, length-take-le, take-take, length-drop}
use lib.ListN.{length, take, drop, drop_of_length-le, get_or, set}
use Rattle.refusals.specs.Grounds.{answer_number, answer_if}
use Rattle.book.specs.Fields.{members}
use Rattle.book.specs.BookGrounds.{Accepted}
use Rattle.book.specs.Rates.{max_rate}
use Rattle.balance.specs.Factors.{factor_answer, factor_list}
use Rattle.balance.specs.Private.Fillable.{CallPasses}
use Rattle.balance.proofs.Call.CallPasses.{passing_call}
use Rattle.portfolios.specs.Rows.{rows_at, answers_at}
use Rattle.portfolios.specs.Private.Next.{NextRun}

module _ (width : ℕ) (book : List ℕ) where
  -- One rate, with what there is of its row.
  pub one_run : (rates : List ℕ) (answers : List ℤ) (rows : List ℕ) {answer : ℤ} {left : List ℕ} →
      0 < length rates → length answers ≡ length rates →
      answer ≡ answer_number (factor_answer (get_or rates 0 0) book (length (take width rows))) →
      left ≡ factor_list (get_or rates 0 0) book (take width rows) ++ drop width rows →
      NextRun width book rates answers rows 1 (set answers 0 answer) left
  unfolding rows_at answers_at
  one_run [] answers rows some lent answered filled = absurd (omega arith)
  one_run (v ∷ rates) [] rows some lent answered filled = absurd (omega arith)
  one_run (v ∷ rates) (first ∷ answers) rows some lent answered filled =
      record {
        some = omega arith;
        within = omega arith;
        answered = rw (one-mul width, take-take width width rows (omega arith), answered) refl;
        filled = rw (one-mul width, take-take width width rows (omega arith), filled, none_behind, append-nil) refl;
      }
    where
      none_behind : drop width (take width rows) ≡ []
      none_behind = drop_of_length-le (take width rows) (omega (arith, length-take width rows))

  no_answer : (list : List ℕ) → answers_at width book [] list ≡ []
  unfolding answers_at
  no_answer list = refl

  -- A rate that is accepted, with a whole row.
  module _ (accepted : Accepted book) (wide : members book ≤ width) where
    answer_of : (v : ℕ) (list : List ℕ) → v ≤ max_rate → width ≤ length list →
        answer_number (factor_answer v book (length (take width list))) ≡ pos (members book)
    answer_of v list low room =
        let passes : CallPasses v book (length (take width list)) =
        record { rate = low; accepted = accepted; enough = omega (arith, length-take-le width list room) } in
        ap (λ found. answer_number (answer_if found (members book)))
        (passing_call v book (length (take width list)) passes)

    next_answer : (v : ℕ) (rates list : List ℕ) → v ≤ max_rate → width ≤ length list →
        answers_at width book (v ∷ rates) list ≡ pos (members book) ∷ answers_at width book rates (drop width list)
    unfolding answers_at
    next_answer v rates list low room =
        ap (λ n. n ∷ answers_at width book rates (drop width list)) (answer_of v list low room)

    pub four_run :
        {a b c d : ℕ} {rates : List ℕ} {answers : List ℤ} {rows : List ℕ} {given : List ℤ} {left : List ℕ} →
        a ≤ max_rate → b ≤ max_rate → c ≤ max_rate → d ≤ max_rate →
        rates ≡ a ∷ b ∷ c ∷ d ∷ drop 4 rates → 4 * width ≤ length rows →
        (let n = pos (members book) in given ≡ n ∷ n ∷ n ∷ n ∷ drop 4 answers) →
        left ≡ rows_at width book (a ∷ b ∷ c ∷ d ∷ []) (take (4 * width) rows) ++ drop (4 * width) rows →
        NextRun width book rates answers rows 4 given left
    four_run {a} {b} {c} {d} {rates} {answers} {rows} low_a low_b low_c low_d are room answered filled =
        let n = pos (members book) in
        let first : take 4 rates ≡ a ∷ b ∷ c ∷ d ∷ [] = ap (take 4) are in
        let whole = take (4 * width) rows in
        let size : length whole ≡ 4 * width = length-take-le (4 * width) rows room in
        let given : answers_at width book (a ∷ b ∷ c ∷ d ∷ []) whole ≡ n ∷ n ∷ n ∷ n ∷ [] =
        rw (
          next_answer a (b ∷ c ∷ d ∷ []) whole low_a (omega arith),
          next_answer b (c ∷ d ∷ []) (drop width whole) low_b (omega (arith, length-drop width whole)),
          next_answer c (d ∷ []) (drop width (drop width whole)) low_c
              (omega (arith, length-drop width whole, length-drop width (drop width whole))),
          next_answer d [] (drop width (drop width (drop width whole))) low_d
              (omega (
                arith,
                length-drop width whole,
                length-drop width (drop width whole),
                length-drop width (drop width (drop width whole)),
              )),
          no_answer (drop width (drop width (drop width (drop width whole)))),
        ) refl
        in
        record {
          some = omega arith;
          within = omega (arith, ap length are);
          answered = rw (first, given, answered) refl;
          filled = rw (first, filled) refl;
        }
