-- The factors that the code holds at a rate are the book's: each stands in its place, and is at most G. So a verdict
-- that is reached on them is the one at that rate.
use Prim.Native.Nat.{ℕ, ◌-◌, ◌≤◌, ◌<◌}
use mathlib.Core.Path.{◌≡◌, refl, ap, ◌∙◌}
use mathlib.Core.List.{List, []}
use native.Mathlib.Omega.{arith}
use lib.ListN.{length, get_or, take, replicate}
use lib.Seq.{take_at, get_or-take}
use Rattle.book.specs.Limits.{max_members}
use Rattle.book.specs.Fields.{members, scale_of}
use Rattle.book.specs.BookGrounds.{Accepted}
use Rattle.book.proofs.Ranges.{Ranges, accepted_ranges}
use Rattle.book.specs.Rates.{max_rate, rates_at}
use Rattle.refusals.specs.Grounds.{written_if}
use Rattle.balance.specs.Chain.{chain_of}
use Rattle.balance.specs.Factors.{factor_at, factors_at, factor_list}
use Rattle.balance.proofs.Call.CallAnswers.{factors_length}
use Rattle.balance.proofs.Call.CallPasses.{passing_call}
use Rattle.balance.proofs.AnyChain.Reported.{reported_at}
use Rattle.balance.proofs.Promised.{factor_at_most_g}
use Rattle.verdict.specs.Verdict.{weight_of, assessment_by, bound_of, verdict_at}
use Rattle.screening.specs.Screening.{assessment_at}
use Rattle.screening.specs.Screenable.{Judgeable, Screenable}
use Rattle.verdict.specs.HeldNumbers.{number_in, assessment_in, Summable}
use Rattle.verdict.specs.declared.verdict.Criterion.{Criterion}
use Rattle.verdict.specs.declared.verdict.Verdict.{Verdict}
use Rattle.verdict.proofs.SameAssessment.{judged_same}

-- the factors at a rate, in an array of zeros
abbrev pub factor_array : List ℕ → ℕ → List ℕ
factor_array book v = factor_list v book (replicate max_members 0)

-- what is asked of a verdict at a rate
pub within : {by : Criterion} {v C : ℕ} {book : List ℕ} → Judgeable by C → v ≤ max_rate → Accepted book →
    Screenable by v C book
within given rate accepted =
    record { target = given.target; rate = rate; concentration = given.concentration; accepted = accepted }

module _ {by : Criterion} {v C : ℕ} {book : List ℕ} (asked : Screenable by v C book) where
  pub ranges : Ranges book
  ranges = accepted_ranges book asked.accepted

  -- the first places of the array hold them, one for each member
  front_is : (u : ℕ) → u ≤ max_rate → {n : ℕ} → n ≡ members book → take n (factor_array book u) ≡ factors_at book u
  front_is u within {n} count_is =
      let passes =
      passing_call u book max_members
      (record { rate = within; accepted = asked.accepted; enough = ranges.members_count.to }) in
      ap (λ found. take n (written_if found (factors_at book u) (replicate max_members 0))) passes
      ∙ take_at (factors_at book u) _ n (rw count_is (factors_length book u asked.accepted))

  pub made_at : {u n : ℕ} {array : List ℕ} → u ≤ max_rate → n ≡ members book → array ≡ factor_array book u →
      take n array ≡ factors_at book u
  made_at {u} {n} within count_is made = ap (take n) made ∙ front_is u within count_is

  pub factor_is : (u i : ℕ) → i < members book → get_or (factors_at book u) i 0 ≡ factor_at book u i
  factor_is u i l = reported_at (scale_of book) (chain_of book) (rates_at book u) (members book - 1) i (omega arith)

  -- what the code has made
  module _ {made : List ℕ} (at_rate : made ≡ factors_at book v) where
    pub count_is : length made ≡ members book
    count_is = ap length at_rate ∙ factors_length book v asked.accepted

    pub summable : {rows : List (List ℕ)} → length rows ≡ members book → Summable by rows made
    summable listed =
        record {
          target = asked.target;
          rows = rw (listed, count_is) refl;
          members = rw count_is ranges.members_count.to;
          capped = λ i l.
              let m : i < members book = rw count_is at l in
              rw (at_rate, factor_is v i m) (factor_at_most_g book v i asked.accepted m);
        }

    pub verdict_at_rate :
        (rows : List (List ℕ)) {n : ℕ} {verdict : Verdict} → n ≡ members book →
        verdict ≡ verdict_at (assessment_in by (take n rows) made) C →
        verdict ≡ verdict_at (assessment_at by book (number_in rows) v) C
    verdict_at_rate rows {n} counted given =
        let weight_is : (i : ℕ) → i < members book →
        weight_of by (number_in (take n rows)) i ≡ weight_of by (number_in rows) i =
        λ i l. rw (get_or-take n rows i [] (rw counted l)) refl
        in
        given
        ∙ ap (λ count. verdict_at (assessment_by by count (number_in (take n rows)) (λ i. get_or made i 0)) C) count_is
        ∙ ap (λ j. j.verdict) (judged_same (members book) weight_is
        (λ i l. ap (λ list. get_or list i 0) at_rate ∙ factor_is v i l) (bound_of by) C)
