-- The capped quotient of a by b.
use Rattle.std.specs.Prelude.{ℕ, ◌*◌, ◌≤◌}

-- q is the largest number from 0 to cap with q times b at most a. So it is cap where b is 0.
pub record LargestQuotient (a b cap q : ℕ) : Type 0 where
  pub within : q ≤ cap
  pub fits : q * b ≤ a
  pub largest : (k : ℕ) → k ≤ cap → k * b ≤ a → k ≤ q
