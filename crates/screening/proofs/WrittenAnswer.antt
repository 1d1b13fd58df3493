-- What is worked out with a second set is what is worked out with the book that has the set written over its own
-- numbers: it reads the chain, which is the book's, and the numbers, which are the set's.
use Prim.Native.Nat.{ℕ, ◌≤◌}
use mathlib.Core.Path.{◌≡◌, refl, ap, ap₂, ◌∙◌}
use mathlib.Core.Bool.{false}
use mathlib.Core.List.{List, []}
use lib.ListN.{length, replicate}
use Rattle.book.specs.Limits.{max_members}
use Rattle.book.specs.Fields.{members, working_level_divisor, coefficient, coefficient_at, scale_of}
use Rattle.book.specs.BookGrounds.{Accepted}
use Rattle.coefficients.specs.Sets.{group_at, set_in_use, coefficient_in_use}
use Rattle.coefficients.specs.SetGrounds.{second_set_out_of_range}
use Rattle.coefficients.specs.WrittenOver.{written_over}
use Rattle.coefficients.specs.declared.set.CoefficientSet.{CoefficientSet}
use Rattle.coefficients.proofs.GroupsOver.{Written}
use Rattle.coefficients.proofs.WrittenFields.{members_kept, divisor_kept, coefficient_written}
use Rattle.coefficients.proofs.WrittenOver.{second_written, enough}
use Rattle.balance.specs.Chain.{chain_of}
use Rattle.balance.specs.Balance.{reported_factor}
use Rattle.balance.specs.Factors.{factor_at}
use Rattle.verdict.specs.Verdict.{assessment_by, verdict_at}
use Rattle.verdict.specs.WorkingLevels.{alpha_sum, working_levels}
use Rattle.verdict.specs.HeldNumbers.{judged_on}
use Rattle.verdict.specs.declared.verdict.Criterion.{Criterion}
use Rattle.screening.specs.Screening.{assessment_at, alpha_at, alpha_at_rest, figures_at, screened_at}
use Rattle.screening.specs.SecondSet.{figures_named, named}
use Rattle.screening.proofs.SameNumbers.{SameNumbers, judged_same, alpha_same}
use Rattle.screening.proofs.WrittenFactors.{factor_kept, rest_kept, list_kept}

module _ {second book w : List ℕ} (written : Written second book (members book) w)
    (enough : group_at (members book) ≤ length second) where
  -- The set's numbers.
  abbrev set : ℕ → ℕ → ℕ
  set i = coefficient_at second (group_at i)

  same : SameNumbers (members book) (coefficient w) set
  same i which l five = coefficient_written written enough i which l five

  judged_kept : (by : Criterion) (v C : ℕ) →
      judged_on (assessment_at by w (coefficient w) v) C ≡ judged_on (assessment_at by book set v) C
  judged_kept by v C =
      ap (λ n. judged_on (assessment_by by n (coefficient w) (factor_at w v)) C) (members_kept written)
      ∙ judged_same (members book) same (λ i l. factor_kept written v i) by C

  alpha_kept : (v : ℕ) → alpha_at w (coefficient w) v ≡ alpha_at book set v
  alpha_kept v =
      ap (λ n. alpha_sum n (coefficient w) (factor_at w v)) (members_kept written)
      ∙ alpha_same (members book) same (λ i l. factor_kept written v i)

  alpha_rest_kept : alpha_at_rest w (coefficient w) ≡ alpha_at_rest book set
  alpha_rest_kept =
      ap (λ n. alpha_sum n (coefficient w) (reported_factor (scale_of w) (chain_of w) (λ k. 0))) (members_kept written)
      ∙ alpha_same (members book) same (λ i l. rest_kept written i)

-- What is worked out with the set is what is worked out with the book that has it.
module _ (second book : List ℕ) (accepted : Accepted book) (fits : second_set_out_of_range book second ≡ false)
    (is_lent : set_in_use second ≡ CoefficientSet.Second) (by : Criterion) (v C : ℕ) where
  abbrev over : List ℕ
  over = written_over second book

  figures_kept : figures_at by over [] v C ≡ figures_named CoefficientSet.Book (figures_at by book second v C)
  unfolding figures_at
  figures_kept =
      let written = second_written second book accepted in
      let judged = judged_kept written (enough second book fits) by v C in
      let working =
      ap₂ (λ at_rate at_rest. working_levels at_rate at_rest C (working_level_divisor over))
      (alpha_kept written (enough second book fits) v) (alpha_rest_kept written (enough second book fits))
      ∙ ap (working_levels _ _ C) (divisor_kept written) in
      rw (is_lent, ap (λ j. j.verdict) judged, ap (λ j. j.level) judged, working) refl

  pub verdict_kept :
      verdict_at (assessment_at by over (coefficient over) v) C
      ≡ verdict_at (assessment_at by book (coefficient_in_use book second) v) C
  verdict_kept =
      rw is_lent
      (ap (λ j. j.verdict)
      (judged_kept (second_written second book accepted) (enough second book fits) by v C))

  pub screened_kept : screened_at by over [] v C ≡ named CoefficientSet.Book (screened_at by book second v C)
  screened_kept =
      rw (
        figures_kept,
        list_kept second book accepted fits v (replicate max_members 0),
        members_kept (second_written second book accepted),
      ) refl
