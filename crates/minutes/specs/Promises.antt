-- What R-5 promises, for any number of minutes.
use Rattle.refusals.specs.declared.Refusal.{Refusal}
use Rattle.refusals.specs.Grounds.{answer_number}
use Rattle.std.specs.Prelude.{ℕ, pos, suc, ◌-◌, ◌*◌, ◌≤◌, ◌<◌, ◌≡◌, List, length, get_or, Result}
use Rattle.book.specs.Fields.{members, scale_of}
use Rattle.numbers.specs.Sums.{sum_below}
use Rattle.book.specs.BookGrounds.{Accepted}
use Rattle.book.specs.Rates.{rates_at}
use Rattle.balance.specs.Chain.{Chain, chain_of}
use Rattle.balance.specs.Sound.{Sound}
use Rattle.balance.specs.Balance.{G}
use Rattle.balance.specs.Exact.{numerator, denominator}
use Rattle.minutes.specs.Minutes.{start, minutes, rate_of, minutes_of}
use Rattle.minutes.specs.Periods.{period_count, periods_answer, periods_list}

-- A factor of member i that is not higher than the exact steady one, numerator / denominator; multiplied out.
abbrev pub NotAboveSteady : ℕ → Chain → (ℕ → ℕ) → ℕ → ℕ → Type 0
NotAboveSteady scale chain rate i factor = factor * denominator scale chain rate i ≤ numerator scale chain rate i * G

-- Of member i's factor after k minutes at one fixed rate, among members 0 to last.
pub record MinutePromise (scale : ℕ) (chain : Chain) (rate : ℕ → ℕ) (last k i : ℕ) : Type 0 where
  pub not_lower :
      get_or (minutes scale chain rate last k (start last)) i 0
      ≤ get_or (minutes scale chain rate last (suc k) (start last)) i 0
  pub not_above_steady : NotAboveSteady scale chain rate i (get_or (minutes scale chain rate last k (start last)) i 0)

-- Of the list that a call leaves, by its answer:
-- at rates of which none is below v, no factor is above the exact steady one at v.
abbrev pub PeriodsPromise : List ℕ → List ℕ → Result ℕ Refusal → List ℕ → Type 0
PeriodsPromise periods book answer list =
    (v n i : ℕ) → ((p : ℕ) → p < period_count periods → v ≤ rate_of periods p) → answer_number answer ≡ pos n → i < n →
    NotAboveSteady (scale_of book) (chain_of book) (rates_at book v) i (get_or list i 0)

-- Periods that are all at rate v, and the minutes of all periods together.
abbrev pub AtOneRate : ℕ → List ℕ → Type 0
AtOneRate v periods = (p : ℕ) → p < period_count periods → rate_of periods p ≡ v

abbrev pub all_minutes : List ℕ → ℕ
all_minutes periods = sum_below (period_count periods) (minutes_of periods)

pub record PeriodsPromises : Type 0 where
  -- of the definitions, whichever minute the room is looked at:
  -- over any share's scale, any sound chain and any rate of each member
  pub of_any_chain :
      (scale : ℕ) (chain : Chain) (rate : ℕ → ℕ) (last k i : ℕ) → 0 < scale → Sound scale chain → last < chain.count →
      i ≤ last → MinutePromise scale chain rate last k i
  -- and so of an accepted book's members
  pub at_a_rate :
      (book : List ℕ) (v k i : ℕ) → Accepted book → i < members book →
      MinutePromise (scale_of book) (chain_of book) (rates_at book v) (members book - 1) k i
  -- of what a call answers and leaves in the lent list
  pub of_the_list :
      (periods book list : List ℕ) →
      PeriodsPromise periods book (periods_answer periods book (length list)) (periods_list periods book list)
  -- no place that is filled holds more than the parent's
  pub none_above_parent :
      (periods book list : List ℕ) (n i : ℕ) → answer_number (periods_answer periods book (length list)) ≡ pos n →
      i < n → get_or (periods_list periods book list) i 0 ≤ G
  -- of two calls at one rate, in however many periods,
  -- the second after no fewer minutes: no place of its list holds less
  pub of_two_lists :
      (v : ℕ) (periods longer book list other : List ℕ) (n m i : ℕ) →
      AtOneRate v periods → AtOneRate v longer → all_minutes periods ≤ all_minutes longer →
      answer_number (periods_answer periods book (length list)) ≡ pos n →
      answer_number (periods_answer longer book (length other)) ≡ pos m →
      i < n →
      get_or (periods_list periods book list) i 0 ≤ get_or (periods_list longer book other) i 0
