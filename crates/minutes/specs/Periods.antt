-- The call: periods, a book and a lent list in; checks 3, 22, 9 to 19.
-- The factors at the end go out as in the factor call.
use Rattle.refusals.specs.declared.Refusal.{Refusal}
use Rattle.std.specs.Prelude.{ℕ, ◌+◌, ◌-◌, ◌/◌, ◌%◌, Bool, ◌||◌, List, [], ◌∷◌, ◌++◌, length, eqb, ltb, Result}
use Rattle.refusals.specs.Grounds.{Ground, ground_of, first_met, answer_if, written_if}
use Rattle.refusals.specs.declared.Refusal.TheVariants.{RateTooHigh, PeriodsOutOfRange, ListTooShort}
use Rattle.book.specs.Fields.{members, scale_of}
use Rattle.numbers.specs.Tests.{outside, some_below}
use Rattle.book.specs.BookGrounds.{book_grounds}
use Rattle.book.specs.Rates.{rate_too_high, rates_at}
use Rattle.balance.specs.Chain.{chain_of}
use Rattle.minutes.specs.Minutes.{rate_of, minutes_of, after_periods}

-- 1 to 32 periods of 1 to 1,440 minutes.
abbrev pub max_periods : ℕ
max_periods = 32

abbrev pub max_minutes : ℕ
max_minutes = 1440

-- A rate and its minutes are a period; an unpaired last number is none.
abbrev pub period_count : List ℕ → ℕ
period_count periods = length periods / 2

-- 3. A rate exceeds 100,000, an unpaired last number included.
unfoldable pub period_rate_too_high : List ℕ → Bool
period_rate_too_high periods = some_below ((length periods + 1) / 2) (λ p. rate_too_high (rate_of periods p))

-- 22. The list's length is odd or the count or length of periods is out of range.
unfoldable pub periods_out_of_range : List ℕ → Bool
periods_out_of_range periods =
    eqb (length periods % 2) 1
    || outside 1 max_periods (period_count periods)
    || some_below (period_count periods) (λ p. outside 1 max_minutes (minutes_of periods p))

abbrev pub periods_grounds : List ℕ → List ℕ → ℕ → List Ground
periods_grounds periods book capacity =
    ground_of RateTooHigh (period_rate_too_high periods)
    ∷ ground_of PeriodsOutOfRange (periods_out_of_range periods)
    ∷ book_grounds book
    ++ (ground_of ListTooShort (ltb capacity (members book)) ∷ [])

-- The factors of a book's members at the end of all the periods, in grains.
abbrev pub factors_after : List ℕ → List ℕ → List ℕ
factors_after periods book =
    after_periods (scale_of book) (chain_of book) (rates_at book) (members book - 1) periods (period_count periods)

abbrev pub periods_answer : List ℕ → List ℕ → ℕ → Result ℕ Refusal
periods_answer periods book capacity = answer_if (first_met (periods_grounds periods book capacity)) (members book)

abbrev pub periods_list : List ℕ → List ℕ → List ℕ → List ℕ
periods_list periods book list =
    written_if (first_met (periods_grounds periods book (length list))) (factors_after periods book) list
