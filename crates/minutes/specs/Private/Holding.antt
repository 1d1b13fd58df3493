-- What the minutes ask of a book, the periods and a lent list;
-- the checks of the call ensure it, and each minute keeps it.
use Rattle.std.specs.Prelude.{ℕ, ◌-◌, ◌*◌, ◌≤◌, ◌<◌, ◌≡◌, List, length, get_or}
use Rattle.book.specs.Fields.{members, scale_of}
use Rattle.book.specs.BookGrounds.{Accepted}
use Rattle.book.specs.Rates.{max_rate, rates_at}
use Rattle.balance.specs.Chain.{chain_of}
use Rattle.balance.specs.Balance.{G}
use Rattle.balance.specs.Exact.{numerators, denominator}
use Rattle.minutes.specs.Minutes.{minute, minutes, rate_of, after_periods}
use Rattle.minutes.specs.Periods.{period_count}

-- Each period's rate is within its limit.
abbrev pub RatesWithin : List ℕ → Type 0
RatesWithin periods = (p : ℕ) → p < period_count periods → rate_of periods p ≤ max_rate

-- A minute of a book's members at rate v, and k minutes.
abbrev pub minute_at : List ℕ → ℕ → List ℕ → List ℕ
minute_at book v old = minute (scale_of book) (chain_of book) (rates_at book v) (members book - 1) old

abbrev pub minutes_at : List ℕ → ℕ → ℕ → List ℕ → List ℕ
minutes_at book v k factors = minutes (scale_of book) (chain_of book) (rates_at book v) (members book - 1) k factors

-- The first p periods of a list.
abbrev pub periods_at : List ℕ → List ℕ → ℕ → List ℕ
periods_at book periods p = after_periods (scale_of book) (chain_of book) (rates_at book) (members book - 1) periods p

-- Of each member's factor: it is not above the exact steady one at rate 0.
-- All stand over the last member's denominator.
abbrev pub BelowUnaired : List ℕ → (ℕ → ℕ) → Type 0
BelowUnaired book factor =
    let rate = rates_at book 0 in
    let last = members book - 1 in
    (i : ℕ) → i ≤ last →
    denominator (scale_of book) (chain_of book) rate last * factor i
    ≤ G * get_or (numerators (scale_of book) (chain_of book) rate last) i 0

-- The list's first places hold factors of the book's members:
-- the parent is held, and so no inflow is too large for a word.
pub record Holds (book list : List ℕ) : Type 0 where
  pub accepted : Accepted book
  pub enough : members book ≤ length list
  pub parent : get_or list 0 0 ≡ G
  pub below : BelowUnaired book (λ i. get_or list i 0)
