-- What R-5 promises: of the definitions by the laws of the minutes, since an accepted book means a sound chain; of a
-- call because place i of its list holds member i's factor.
use Rattle.refusals.specs.declared.Refusal.{Refusal}
use Prim.Native.Nat.{ℕ, ◌-◌, ◌≤◌, ◌<◌}
use native.Mathlib.Nat.{le_refl, le_of_mul-le-mul_left, mul-le-mul_right}
use native.Mathlib.Omega.{arith}
use mathlib.Core.Path.{◌≡◌, subst, sym}
use mathlib.Core.List.{List}
use lib.ListN.{length, get_or}
use Rattle.refusals.specs.Grounds.{first_met, answer_number}
use Rattle.book.specs.Fields.{members, scale_of}
use Rattle.book.specs.BookGrounds.{Accepted}
use Rattle.book.proofs.Rates.{scale_positive, rates_rise}
use Rattle.book.specs.Rates.{rates_at}
use Rattle.balance.specs.Chain.{chain_of}
use Rattle.balance.specs.Balance.{G}
use Rattle.balance.specs.Exact.{numerators, denominator}
use Rattle.balance.specs.Promises.{FactorPromise}
use Rattle.balance.proofs.FromBook.AcceptedSound.{accepted_sound}
use Rattle.balance.proofs.Call.CallAnswers.{filled_passed, place_holds}
use Rattle.balance.proofs.AnyChain.Equations.{ExactFactors, exact_solves}
use Rattle.balance.proofs.AnyChain.Numerators.{denominator_pos}
use Rattle.std.specs.Prelude.{pos, Result, Ok}
use Rattle.balance.proofs.AnyChain.SoundFactors.{factor_promise}
use Rattle.minutes.specs.Minutes.{start, minutes, rate_of}
use Rattle.minutes.specs.Periods.{period_count, periods_grounds, factors_after, periods_answer, periods_list}
use Rattle.minutes.specs.Promises.{NotAboveSteady, MinutePromise, PeriodsPromise}
use Rattle.minutes.specs.Promises.{AtOneRate, all_minutes, PeriodsPromises}
use Rattle.minutes.proofs.Repeated.{minutes_order, minute_promise}
use Rattle.minutes.proofs.Periods.{periods_at_one_rate, periods_below}
use Rattle.minutes.proofs.Holding.{members_are, last_counts}
use Rattle.minutes.proofs.Checking.{periods_pass, factors_after_length}

pub at_a_rate :
    (book : List ℕ) (v k i : ℕ) → Accepted book → i < members book →
    MinutePromise (scale_of book) (chain_of book) (rates_at book v) (members book - 1) k i
at_a_rate book v k i accepted l =
    let within : i ≤ members book - 1 = omega (arith, members_are book accepted) in
    minute_promise (scale_positive book) (accepted_sound book accepted) (members book - 1) (last_counts book accepted)
    (rates_at book v) k i within

not_above :
    (periods book : List ℕ) (v i : ℕ) →
    Accepted book → ((p : ℕ) → p < period_count periods → v ≤ rate_of periods p) → i < members book →
    NotAboveSteady (scale_of book) (chain_of book) (rates_at book v) i (get_or (factors_after periods book) i 0)
not_above periods book v i accepted lowest l =
    let sound = accepted_sound book accepted in
    let last = members book - 1 in
    let within : i ≤ last = omega (arith, members_are book accepted) in
    let P = denominator (scale_of book) (chain_of book) (rates_at book v) i in
    let x : ℕ → ℕ = λ j. get_or (numerators (scale_of book) (chain_of book) (rates_at book v) i) j 0 in
    let exact : ExactFactors (scale_of book) (chain_of book) (rates_at book v) i P x =
    exact_solves (scale_of book) (chain_of book) (rates_at book v) sound i l
    in
    let all =
    periods_below (scale_of book) (chain_of book) (rates_at book) last periods (scale_positive book) sound
    (last_counts book accepted) i within exact in
    let below =
    all (period_count periods) (λ p h k. rates_rise book v (rate_of periods p) k (lowest p h)) i (le_refl i) in
    omega arith

module _ (periods book list : List ℕ) {n : ℕ}
    (answered : answer_number (periods_answer periods book (length list)) ≡ pos n) where
  passed : (first_met (periods_grounds periods book (length list)) ≡ Ok tt) × (members book ≡ n)
  passed = filled_passed (first_met (periods_grounds periods book (length list))) (members book) n answered

  pub periods_accepted : Accepted book
  periods_accepted = (periods_pass periods book (length list) passed.0).1

  pub periods_count : members book ≡ n
  periods_count = passed.1

  periods_place : (i : ℕ) → i < n →
      get_or (periods_list periods book list) i 0 ≡ get_or (factors_after periods book) i 0
  periods_place i l =
      let count = passed.1 in
      place_holds (factors_after periods book) list passed.0 i
      (omega (arith, factors_after_length periods book periods_accepted))

  within : (i : ℕ) → i < n → i < members book
  within i l = let count = passed.1 in omega arith

pub list_promise :
    (periods book list : List ℕ) →
    PeriodsPromise periods book (periods_answer periods book (length list)) (periods_list periods book list)
list_promise periods book list v n i lowest answered l =
    subst
    (NotAboveSteady (scale_of book) (chain_of book) (rates_at book v) i)
    (sym (periods_place periods book list answered i l))
    (not_above periods book v i (periods_accepted periods book list answered) lowest
    (within periods book list answered i l))

-- At rate 0 the exact steady factor is at most 1, and no rate is lower.
none_above_parent :
    (periods book list : List ℕ) (n i : ℕ) → answer_number (periods_answer periods book (length list)) ≡ pos n → i < n →
    get_or (periods_list periods book list) i 0 ≤ G
none_above_parent periods book list n i answered l =
    let sound = accepted_sound book (periods_accepted periods book list answered) in
    let whole : FactorPromise (scale_of book) (chain_of book) (rates_at book 0) i _ =
    factor_promise (scale_positive book) sound i (within periods book list answered i l)
    in
    let below = list_promise periods book list 0 n i (λ p h. omega arith) answered l in
    let P = denominator (scale_of book) (chain_of book) (rates_at book 0) i in
    le_of_mul-le-mul_left {k = P}
    (omega (arith, mul-le-mul_right G whole.exact_at_most_one))
    (denominator_pos (scale_of book) (chain_of book) (rates_at book 0) (scale_positive book) i)

-- What a call keeps that answers and leaves the list as defined.
pub kept :
    (periods book list : List ℕ) {answer : Result ℕ Refusal} {now : List ℕ} →
    answer ≡ periods_answer periods book (length list) → now ≡ periods_list periods book list →
    PeriodsPromise periods book answer now
kept periods book list answered left = rw (answered, left) (list_promise periods book list)

-- At one rate the factors are those of all the minutes together.
one_rate : (v : ℕ) (periods book : List ℕ) → AtOneRate v periods →
    factors_after periods book
    ≡ minutes (scale_of book) (chain_of book) (rates_at book v) (members book - 1) (all_minutes periods)
    (start (members book - 1))
one_rate v periods book same =
    periods_at_one_rate (scale_of book) (chain_of book) (rates_at book) (members book - 1) periods v
    (period_count periods) same

pub periods_promises : PeriodsPromises
periods_promises =
    record {
      of_any_chain = λ scale chain rate last k i pos sound l within. minute_promise pos sound last l rate k i within;
      at_a_rate = at_a_rate;
      of_the_list = list_promise;
      none_above_parent = none_above_parent;
      of_two_lists = λ v periods longer book list other n m i same also more answered other-answered l.
          let accepted = periods_accepted periods book list answered in
          let count = periods_count periods book list answered in
          let there : i < m = omega (arith, periods_count longer book other other-answered) in
          let last = members book - 1 in
          let here : i ≤ last = omega (arith, members_are book accepted) in
          rw (
            periods_place periods book list answered i l,
            periods_place longer book other other-answered i there,
            one_rate v periods book same,
            one_rate v longer book also,
          )
          (minutes_order (scale_positive book) (accepted_sound book accepted) last (last_counts book accepted)
          (rates_at book v) _ _ i more here);
    }
