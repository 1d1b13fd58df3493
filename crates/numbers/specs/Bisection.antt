-- Where a bisection stands that looks for the first number below `count` at which a test holds.
use Rattle.std.specs.Prelude.{ℕ, ◌≤◌, ◌<◌, ◌≡◌, Bool, true, false}

-- Of the numbers below `count` none below `low` passes the test, and `high`, if it is one of them, does.
pub record Between (test : ℕ → Bool) (count low high : ℕ) : Type 0 where
  pub order : low ≤ high
  pub within : high ≤ count
  pub fails : (k : ℕ) → k < low → test k ≡ false
  pub holds : high < count → test high ≡ true

-- The test goes on holding once it holds.
pub record Rises (test : ℕ → Bool) (count : ℕ) : Type 0 where
  pub stays : (k l : ℕ) → k ≤ l → l < count → test k ≡ true → test l ≡ true

-- Whatever is answered at a number below `count` is the test's answer there.
abbrev pub Answers : (ℕ → Bool → Type 0) → ℕ → (ℕ → Bool) → Type 0
Answers answered count test = (k : ℕ) (answer : Bool) → k < count → answered k answer → answer ≡ test k

-- Where a closure answers as a test does that goes on holding, the first number at which it holds lies from `low` to
-- `high`.
abbrev pub LiesBetween : (ℕ → Bool → Type 0) → ℕ → ℕ → ℕ → Type 0
LiesBetween answered count low high =
    (test : ℕ → Bool) → Answers answered count test → Rises test count → Between test count low high
