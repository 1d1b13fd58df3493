-- What a mark promises: its four comparisons are of the ends, and these tell of every point.
use Prim.Native.Nat.{ℕ, ◌*◌, ◌≤◌, ◌<◌}
use mathlib.Core.Path.{◌≡◌, refl}
use mathlib.Core.Bool.{Bool, true, false, and-false}
use mathlib.Core.Logic.{◌⊎◌, inl, inr}
use Rattle.balance.specs.Chain.{Chain}
use Rattle.balance.specs.Balance.{G, raised}
use Rattle.balance.specs.Exact.{numerator, denominator}
use Rattle.balance.specs.Promises.{FactorPromise}
use Rattle.balance.proofs.AnyChain.Numerators.{denominator_pos}
use Rattle.balance.proofs.Raised.{exact_at_most_raised}
use Rattle.entry.specs.declared.scaling.Share.{Share}
use Rattle.printed.specs.Mark.{not_below, not_above, within, mark_of}
use Rattle.printed.specs.Promises.{Point, MarkPromise, ExactPromise, MarkPromises}
use Rattle.printed.specs.declared.mark.Mark.{Mark}
use Rattle.printed.specs.declared.mark.Mark.TheVariants.{Right, Wrong}
use Rattle.printed.proofs.OfForm.{form_promise}
use Rattle.printed.proofs.Said.{right_said, wrong_said, close_said, both_hold}
use Rattle.printed.proofs.Points.{above_low, under_high, all_below, all_above, at_low, at_high}
use Rattle.printed.proofs.Points.{lower_end, parts, lower_point, lower_within}

module _ (share : Share) (low high : ℕ) where
  right_all :
      mark_of share low high ≡ Right → (p q : ℕ) → Point low high p q → within share p q ≡ true
  right_all e p q point =
      let ends = right_said share low high e in
      let from = both_hold (not_below share low 1) (not_above share low 1) ends.0 in
      let to = both_hold (not_below share high 1) (not_above share high 1) ends.1 in
      rw (above_low share point from.0, under_high share point to.1) refl

  none_of : {p q : ℕ} → Point low high p q →
      (not_below share high 1 ≡ false) ⊎ (not_above share low 1 ≡ false) → within share p q ≡ false
  none_of point (inl below) = rw (all_below share point below) refl
  none_of {p} {q} point (inr above) = rw (all_above share point above) (and-false (not_below share p q))

  wrong_none :
      mark_of share low high ≡ Wrong → (p q : ℕ) → Point low high p q → within share p q ≡ false
  wrong_none e p q point = none_of point (wrong_said share low high e)

  -- Where the low end is not within, since it is too far below, the half unit's lower end is.
  some_within :
      low ≤ high → not_below share high 1 ≡ true → not_above share low 1 ≡ true →
      (t : Bool) → not_below share low 1 ≡ t → (p : ℕ) × (q : ℕ) × Point low high p q × (within share p q ≡ true)
  some_within le high_reaches low_reaches true begins =
      (low, 1, at_low le, rw (begins, low_reaches) refl)
  some_within le high_reaches low_reaches false begins =
      (lower_end share, parts share, lower_point share begins high_reaches, lower_within share low begins)

  some_not :
      low ≤ high → (within share low 1 ≡ false) ⊎ (within share high 1 ≡ false) →
      (p : ℕ) × (q : ℕ) × Point low high p q × (within share p q ≡ false)
  some_not le (inl end) = (low, 1, at_low le, end)
  some_not le (inr end) = (high, 1, at_high le, end)

  pub mark_promise : low ≤ high → MarkPromise share low high (mark_of share low high)
  mark_promise le =
      record {
        right = right_all;
        wrong = wrong_none;
        close = λ e.
            let near = close_said share low high e in
            some_within le near.high_reaches near.low_reaches (not_below share low 1) refl;
        not_all = λ e. some_not le (close_said share low high e).not_all;
      }

-- What a mark keeps that is the definition's.
pub kept :
    (share : Share) (low high : ℕ) {given : Mark} → given ≡ mark_of share low high → low ≤ high →
    MarkPromise share low high given
kept share low high is le = rw is (mark_promise share low high le)

-- The exact factor is a point of its interval.
module _ (share : Share) {scale : ℕ} {chain : Chain} {rate : ℕ → ℕ} {i factor : ℕ} (pos : 0 < scale)
    (promise : FactorPromise scale chain rate i factor) where
  exact_point :
      Point factor (raised i factor) (numerator scale chain rate i * G) (denominator scale chain rate i)
  exact_point =
      record {
        fraction = denominator_pos scale chain rate pos i;
        from_low = promise.never_above;
        to_high = exact_at_most_raised i promise;
      }

  exact_promise : ExactPromise share scale chain rate i (mark_of share factor (raised i factor))
  exact_promise =
      record {
        right = λ e. right_all share factor (raised i factor) e _ _ exact_point;
        wrong = λ e. wrong_none share factor (raised i factor) e _ _ exact_point;
      }

pub mark_promises : MarkPromises
mark_promises =
    record {
      of_the_form = form_promise;
      of_any_interval = mark_promise;
      of_the_exact = λ share scale chain rate i factor pos promise. exact_promise share pos promise;
    }
