-- The promise of the whole number, for every amount. A float's denominator is a power of two, so it is not 0 and the
-- laws of a quotient rounded up apply; which answer was given says how each of its two tests came out.
use Prim.Native.Nat.{ℕ, ◌≤◌, ◌<◌}
use mathlib.Core.Path.{◌≡◌, refl}
use mathlib.Core.Bool.{Bool, true, false}
use borrow.Author.Tests.{ltb-true}
use lib.Dec.{lit<, ltb}
use lib.Ieee.{Float, nan, inf, fin}
use lib.Ieee.Fits.{down_pos}
use Rattle.reading.specs.declared.amounts.Amount.{Amount}
use Rattle.std.specs.Prelude.{Result, Ok, Err}
use Rattle.std.proofs.lemmas.Result.{IfOk-at_ok}
use Rattle.reading.specs.declared.error.ReadingError.{ReadingError}
use Rattle.reading.specs.Reading.{figure, unusable, denominator_of, value_numerator, value_denominator}
use Rattle.reading.specs.Reading.{SmallestNotBelow, max_concentration, whole, whole_answer}
use Rattle.reading.specs.Promises.{ReadingPromise}
use Rattle.reading.proofs.Ceiling.{rounded_up_smallest}
use Rattle.reading.proofs.PartsJoined.{tested, whole_within}

denominator_above_zero : (x : Float) → 0 < denominator_of x
denominator_above_zero nan = lit< tt
denominator_above_zero (inf s) = lit< tt
denominator_above_zero (fin s m e) = down_pos e

whole_smallest : (amount : Amount) → SmallestNotBelow (value_numerator amount) (value_denominator amount) (whole amount)
unfolding whole
whole_smallest amount =
    rounded_up_smallest (value_numerator amount) (value_denominator amount) (denominator_above_zero (figure amount))

number_answered : (u l : Bool) (n k : ℕ) → tested u l n ≡ Ok k → k ≡ n
number_answered true l n k e = cc
number_answered false true n k e = cc
number_answered false false n k e = cc

too_large_answered : (u l : Bool) (n : ℕ) → tested u l n ≡ Err ReadingError.TooLarge → l ≡ true
too_large_answered true l n e = cc
too_large_answered false true n e = refl
too_large_answered false false n e = cc

unusable_answered : (u l : Bool) (n : ℕ) → tested u l n ≡ Err ReadingError.Unusable → u ≡ true
unusable_answered true l n e = refl
unusable_answered false true n e = cc
unusable_answered false false n e = cc

pub reading_promise : (amount : Amount) → ReadingPromise amount (whole_answer amount)
reading_promise amount =
    let u = unusable (figure amount) in
    let w = whole amount in
    let l = ltb max_concentration w in
    let least = whole_smallest amount in
    record {
      smallest = λ n e. rw (number_answered u l w n e) least;
      within = λ n e. IfOk-at_ok (λ k. k ≤ max_concentration) e (whole_within amount);
      too_large = λ e.
          least.one_less_is_below max_concentration (ltb-true max_concentration w (too_large_answered u l w e));
      only_unusable = unusable_answered u l w;
      every_unusable = λ e. rw e;
    }

pub promised : (amount : Amount) {answer : Result ℕ ReadingError} → answer ≡ whole_answer amount →
    ReadingPromise amount answer
promised amount e = rw e (reading_promise amount)
