-- A list whose first places are zeros, the parent's place then set, is that of a shut room.
use Prim.Native.Nat.{ℕ, zero, suc, ◌-◌, ◌≤◌}
use mathlib.Core.Path.{◌≡◌, refl}
use mathlib.Core.List.{List, ◌++◌}
use native.Mathlib.Omega.{arith}
use lib.ListN.{set, drop, replicate}
use Rattle.balance.specs.Balance.{G}
use Rattle.minutes.specs.Minutes.{start}

pub begun : (count : ℕ) (list : List ℕ) → 1 ≤ count →
    set (replicate count 0 ++ drop count list) 0 G ≡ start (count - 1) ++ drop count list
begun zero list some = absurd (omega arith)
begun (suc n) list some =
    let e : suc n - 1 ≡ n = omega arith in
    rw e refl

pub ruleset beginning = (begun)
