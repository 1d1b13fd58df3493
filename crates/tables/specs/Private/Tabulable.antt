-- What the checks before the last ensure of a list of rates.
use Rattle.refusals.specs.declared.Refusal.{Refusal}
use Rattle.std.specs.Prelude.{ℕ, ◌≤◌, ◌<◌, cond, List, ltb, length, get_or, Result, Ok, Err}
use Rattle.refusals.specs.declared.Refusal.TheVariants.{BufferTooShort}
use Rattle.book.specs.Rates.{max_rate}
use Rattle.balance.specs.Balance.{G}
use Rattle.tables.specs.Answers.{max_rates}

pub record Tabulable (rates : List ℕ) : Type 0 where
  pub low : (i : ℕ) → i < length rates → get_or rates i 0 ≤ max_rate
  pub few : length rates ≤ max_rates

-- The answer then: the text's length where there is room for it.
abbrev pub fitting_answer : List ℕ → ℕ → Result ℕ Refusal
fitting_answer text capacity =
    cond (ltb capacity (length text)) (Err BufferTooShort) (Ok (length text))

-- No factor of a list is above the parent's.
pub record NoneAboveParent (factors : List ℕ) : Type 0 where
  pub at_most : (i : ℕ) → i < length factors → get_or factors i 0 ≤ G
