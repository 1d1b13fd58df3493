-- What is promised of the answer to an amount. Each comparison with the exact value is
-- multiplied out.
use Rattle.std.specs.Prelude.{ℕ, ◌*◌, ◌≤◌, ◌<◌, ◌≡◌, true, Result, Ok, Err}
use Rattle.reading.specs.Reading.{figure, unusable, value_numerator, value_denominator}
use Rattle.reading.specs.Reading.{SmallestNotBelow, max_concentration}
use Rattle.reading.specs.declared.amounts.Amount.{Amount}
use Rattle.reading.specs.declared.error.ReadingError.{ReadingError}

pub record ReadingPromise (amount : Amount) (answer : Result ℕ ReadingError) : Type 0 where
  -- a number is the smallest that is not below the exact value, and within the limit
  pub smallest : (n : ℕ) → answer ≡ Ok n → SmallestNotBelow (value_numerator amount) (value_denominator amount) n
  pub within : (n : ℕ) → answer ≡ Ok n → n ≤ max_concentration
  -- 'too large' only if the exact value is more than the limit
  pub too_large : answer ≡ Err ReadingError.TooLarge →
      max_concentration * value_denominator amount < value_numerator amount
  -- 'unusable' for the figures of ground 7, and for no others
  pub only_unusable : answer ≡ Err ReadingError.Unusable → unusable (figure amount) ≡ true
  pub every_unusable : unusable (figure amount) ≡ true → answer ≡ Err ReadingError.Unusable
