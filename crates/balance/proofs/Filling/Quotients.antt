-- The half-lives that a later member's factor is worked out with are within the daughters' limit.
use Prim.Native.Nat.{ℕ, zero, suc, ◌≤◌, ◌<◌}
use mathlib.Core.List.{List}
use native.Mathlib.Omega.{arith}
use Rattle.book.specs.Limits.{max_half_life}
use Rattle.book.specs.Fields.{members, half_life}
use Rattle.book.specs.BookGrounds.{Accepted}
use Rattle.book.proofs.Ranges.{accepted_ranges}

-- Every member but the parent has a half-life within the daughters' limit.
pub later_half_life : (book : List ℕ) → Accepted book → (i : ℕ) → i < members book → 0 < i →
    half_life book i ≤ max_half_life
later_half_life book accepted zero l later = absurd (omega arith)
later_half_life book accepted (suc i) l later = ((accepted_ranges book accepted).member (suc i) l).half_life_in_range.to
