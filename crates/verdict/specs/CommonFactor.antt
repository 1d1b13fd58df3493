-- Two assessments that differ by a common factor, and two that come out the same.
use Rattle.std.specs.Prelude.{ℕ, ◌*◌, ◌<◌, ◌≡◌}
use Rattle.verdict.specs.Verdict.{Assessment, verdict_at, level}

-- The same members and factors, with every weight and B times k.
pub record CommonFactor (k : ℕ) (a b : Assessment) : Type 0 where
  pub count : b.count ≡ a.count
  pub weight : (i : ℕ) → i < a.count → b.weight i ≡ k * a.weight i
  pub factor : (i : ℕ) → i < a.count → b.factor i ≡ a.factor i
  pub bound : b.bound ≡ k * a.bound

-- The verdict at every concentration, and the level, are as they were.
pub record Unchanged (a b : Assessment) : Type 0 where
  pub verdict : (C : ℕ) → verdict_at b C ≡ verdict_at a C
  pub level : level b ≡ level a
