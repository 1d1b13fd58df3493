-- A member's inflow, over a number for each member in place of a list of factors.
-- It is linear in those numbers, and reads only the members that the feeds come from,
-- so what holds of each of these holds of the inflow.
use Prim.Native.Nat.{ℕ, ◌+◌, ◌*◌, ◌≤◌, ◌<◌}
use native.Mathlib.Nat.{mul-le-mul_left}
use native.Mathlib.Omega.{arith}
use mathlib.Core.Path.{◌≡◌, refl, ap}
use mathlib.Core.List.{List, [], ◌∷◌, ◌++◌}
use lib.ListN.{get_or}
use Rattle.book.specs.declared.feed.Feed.{Feed}
use Rattle.balance.specs.Sound.{FromBelow}
use Rattle.balance.specs.Balance.{inflow}

abbrev pub inflow_of : (ℕ → ℕ) → List Feed → ℕ
inflow_of a [] = 0
inflow_of a (feed ∷ feeds) = feed.share * a feed.from + inflow_of a feeds

pub inflow_of_list : (factors : List ℕ) (feeds : List Feed) →
    inflow factors feeds ≡ inflow_of (λ k. get_or factors k 0) feeds
inflow_of_list factors [] = refl
inflow_of_list factors (feed ∷ feeds) =
    ap (λ y. feed.share * get_or factors feed.from 0 + y) (inflow_of_list factors feeds)

pub inflow_append : (a : ℕ → ℕ) (feeds more : List Feed) →
    inflow_of a (feeds ++ more) ≡ inflow_of a feeds + inflow_of a more
inflow_append a [] more = omega arith
inflow_append a (feed ∷ feeds) more = let ih = inflow_append a feeds more in omega arith

pub inflow_le :
    (s p q : ℕ) (c a b : ℕ → ℕ) (k : ℕ) (feeds : List Feed)
    → FromBelow k feeds
    → ((j : ℕ) → j < k → s * c j ≤ p * a j + q * b j)
    → s * inflow_of c feeds ≤ p * inflow_of a feeds + q * inflow_of b feeds
inflow_le s p q c a b k [] below each = omega arith
inflow_le s p q c a b k (feed ∷ feeds) below each =
    let here = mul-le-mul_left feed.share (each feed.from below.0) in
    let ih = inflow_le s p q c a b k feeds below.1 each in
    omega arith

pub inflow_order :
    (p g : ℕ) (y x : ℕ → ℕ) (k : ℕ) (feeds : List Feed)
    → FromBelow k feeds
    → ((j : ℕ) → j < k → p * y j ≤ g * x j)
    → p * inflow_of y feeds ≤ g * inflow_of x feeds
inflow_order p g y x k feeds below each =
    let both = inflow_le p g 0 y x x k feeds below (λ j l. omega (arith, each j l)) in
    omega arith

pub inflow_scaled :
    (p : ℕ) (a b : ℕ → ℕ) (k : ℕ) (feeds : List Feed)
    → FromBelow k feeds
    → ((j : ℕ) → j < k → a j ≡ p * b j)
    → inflow_of a feeds ≡ p * inflow_of b feeds
inflow_scaled p a b k [] below each = omega arith
inflow_scaled p a b k (feed ∷ feeds) below each =
    let here = ap (λ y. feed.share * y) (each feed.from below.0) in
    let ih = inflow_scaled p a b k feeds below.1 each in
    omega arith

pub inflow_same :
    (a b : ℕ → ℕ) (k : ℕ) (feeds : List Feed) → FromBelow k feeds → ((j : ℕ) → j < k → a j ≡ b j) →
    inflow_of a feeds ≡ inflow_of b feeds
inflow_same a b k feeds below each =
    let once = inflow_scaled 1 a b k feeds below (λ j l. omega (arith, each j l)) in
    omega arith
