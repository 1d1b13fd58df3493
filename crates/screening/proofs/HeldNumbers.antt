-- What is worked out from what the code holds of an accepted book is the book's own:
-- each number in use and each factor of a member stands in its place.
use Prim.Native.Nat.{ℕ, ◌<◌}
use native.Mathlib.Omega.{arith}
use mathlib.Core.Path.{◌≡◌, refl, ap, ap₂, ◌∙◌}
use mathlib.Core.List.{List}
use lib.ListN.{length, get_or, take}
use Rattle.book.specs.Fields.{members, working_level_divisor}
use Rattle.coefficients.specs.Sets.{set_in_use, coefficient_in_use}
use Rattle.book.specs.Held.{up_to}
use Rattle.coefficients.specs.Rows.{row_in_use, rows_in_use, numbers_in_use}
use Rattle.coefficients.proofs.InRows.{number_in_array, number_in_front, front_length, front_of}
use Rattle.coefficients.specs.declared.rows.NumbersInUse.{NumbersInUse}
use Rattle.balance.specs.Factors.{factor_at, factors_at}
use Rattle.verdict.specs.Verdict.{assessment_by, verdict_at}
use Rattle.verdict.specs.WorkingLevels.{alpha_sum}
use Rattle.screening.specs.Screening.{assessment_at, alpha_at, alpha_at_rest, figures_at, screened_at}
use Rattle.screening.specs.Screenable.{Screenable}
use Rattle.verdict.specs.HeldNumbers.{number_in, assessment_in, judged_on, alpha_in}
use Rattle.screening.specs.Private.HeldNumbers.{figures_by, figures_in, Figurable}
use Rattle.screening.specs.declared.job.Answer.{Answer}
use Rattle.screening.specs.declared.job.Figures.{Figures}
use Rattle.verdict.specs.declared.verdict.Criterion.{Criterion}
use Rattle.screening.proofs.FactorsAtRate.{factor_array, ranges, count_is, factor_is, summable}
use Rattle.screening.proofs.SameNumbers.{SameNumbers, judged_same, alpha_same}
use Rattle.screening.proofs.Falling.{at_rest, alpha_below_rest}

-- At any rate the verdict with the numbers of the whole array is the one with those in use.
pub by_rows :
    (book second : List ℕ) {array : List (List ℕ)} → array ≡ rows_in_use book second → (by : Criterion) (C u : ℕ) →
    verdict_at (assessment_at by book (number_in array) u) C
    ≡ verdict_at (assessment_at by book (coefficient_in_use book second) u) C
by_rows book second read by C u =
    ap (λ j. j.verdict) (judged_same (members book) (number_in_array book second read) (λ i l. refl) by C)

module _ {by : Criterion} {v C : ℕ} {book : List ℕ} (asked : Screenable by v C book) (second : List ℕ)
    {numbers : NumbersInUse} (read : numbers ≡ numbers_in_use book second) where
  abbrev rows : List (List ℕ)
  rows = take numbers.members numbers.rows

  abbrev in_use : ℕ → ℕ → ℕ
  in_use = coefficient_in_use book second

  front : rows ≡ up_to (members book) (row_in_use book second)
  front = front_of book second (ap (λ n. n.members) read) (ap (λ n. n.rows) read)

  rows_are : length rows ≡ members book
  rows_are = front_length book second front

  same : SameNumbers (members book) (number_in rows) in_use
  same = number_in_front book second front

  set_is : numbers.set ≡ set_in_use second
  set_is = ap (λ n. n.set) read

  divisor_is : numbers.divisor ≡ working_level_divisor book
  divisor_is = ap (λ n. n.divisor) read

  -- what the code has made of the factors at the rate and at rate 0
  module _ {made zeroed : List ℕ} (at_rate : made ≡ factors_at book v) (at_zero : zeroed ≡ factors_at book 0) where
    zero : Screenable by 0 C book
    zero =
        record {
          target = asked.target;
          rate = omega arith;
          concentration = asked.concentration;
          accepted = asked.accepted;
        }

    factors_are : (u : ℕ) {list : List ℕ} → list ≡ factors_at book u → (i : ℕ) → i < members book →
        get_or list i 0 ≡ factor_at book u i
    factors_are u at i l = ap (λ list. get_or list i 0) at ∙ factor_is asked u i l

    judged_are : judged_on (assessment_in by rows made) C ≡ judged_on (assessment_at by book in_use v) C
    judged_are =
        ap (λ n. judged_on (assessment_by by n (number_in rows) (λ i. get_or made i 0)) C) (count_is asked at_rate)
        ∙ judged_same (members book) same (factors_are v at_rate) by C

    alpha_are : (u : ℕ) {list : List ℕ} → length list ≡ members book → list ≡ factors_at book u →
        alpha_in rows list ≡ alpha_at book in_use u
    alpha_are u {list} size at =
        ap (λ n. alpha_sum n (number_in rows) (λ i. get_or list i 0)) size
        ∙ alpha_same (members book) same (factors_are u at)

    rate_is : alpha_in rows made ≡ alpha_at book in_use v
    rate_is = alpha_are v (count_is asked at_rate) at_rate

    zero_is : alpha_in rows zeroed ≡ alpha_at_rest book in_use
    zero_is = alpha_are 0 (count_is zero at_zero) at_zero ∙ at_rest book in_use

    pub figurable : Figurable by C numbers.divisor rows made zeroed
    figurable =
        record {
          judgeable = record { summable = summable asked at_rate rows_are; concentration = asked.concentration };
          zeroed_rows = rw (rows_are, count_is zero at_zero) refl;
          falls = rw (rate_is, zero_is) (alpha_below_rest book in_use v asked.accepted asked.rate);
          some_divisor = rw divisor_is (ranges asked).divisor;
        }

    figures_are : figures_in numbers.set by C numbers.divisor rows made zeroed ≡ figures_at by book second v C
    unfolding figures_at
    figures_are = rw set_is (ap₂ (figures_by (set_in_use second) C) judged_are (rw (rate_is, zero_is, divisor_is) refl))

    pub screened_is :
        {figures : Figures} {list : List ℕ} {count : ℕ}
        → figures ≡ figures_in numbers.set by C numbers.divisor rows made zeroed → list ≡ factor_array book v
        → count ≡ members book
        → ◌≡◌ {A = Answer} (record { figures = figures; factors = list; count = count })
        (screened_at by book second v C)
    screened_is found listed counted = rw (found ∙ figures_are, listed, counted) refl
