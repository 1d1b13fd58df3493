-- Two lists with the same bytes, from one place on in one and from one in the other, have the same numbers there.
use Prim.Native.Nat.{ℕ, ◌+◌, ◌*◌, ◌^◌, ◌<◌}
use native.Mathlib.Nat.{add-zero, add_assoc}
use native.Mathlib.Omega.{arith}
use mathlib.Core.Path.{◌≡◌, ap₂}
use mathlib.Core.List.{List}
use lib.ListN.{get_or}
use Rattle.numbers.specs.Bytes.{u8_at, u16_at, u32_at, u64_at}

-- The bytes are `size` many, from k on in a and from j on in b.
pub record Alike (a : List ℕ) (k : ℕ) (b : List ℕ) (j size : ℕ) : Type 0 where
  pub byte : (r : ℕ) → r < size → get_or a (k + r) 0 ≡ get_or b (j + r) 0

module _ {a b : List ℕ} {k j : ℕ} where
  start : (m n : ℕ) → Alike a k b j (m + n) → Alike a k b j m
  start m n alike = record { byte = λ r l. alike.byte r (omega arith) }

  rest : (m n : ℕ) → Alike a k b j (m + n) → Alike a (k + m) b (j + m) n
  rest m n alike = record { byte = λ r l. rw (add_assoc k m r, add_assoc j m r) (alike.byte (m + r) (omega arith)) }

pub u8_alike : {a b : List ℕ} {k j : ℕ} → Alike a k b j 1 → u8_at a k ≡ u8_at b j
u8_alike {k = k} {j} alike = let e = alike.byte 0 (omega arith) in rw (add-zero k, add-zero j) at e

pub u16_alike : {a b : List ℕ} {k j : ℕ} → Alike a k b j 2 → u16_at a k ≡ u16_at b j
u16_alike alike = ap₂ (λ x y. x + 2 ^ 8 * y) (u8_alike (start 1 1 alike)) (u8_alike (rest 1 1 alike))

pub u32_alike : {a b : List ℕ} {k j : ℕ} → Alike a k b j 4 → u32_at a k ≡ u32_at b j
u32_alike alike = ap₂ (λ x y. x + 2 ^ 16 * y) (u16_alike (start 2 2 alike)) (u16_alike (rest 2 2 alike))

pub u64_alike : {a b : List ℕ} {k j : ℕ} → Alike a k b j 8 → u64_at a k ≡ u64_at b j
u64_alike alike = ap₂ (λ x y. x + 2 ^ 32 * y) (u32_alike (start 4 4 alike)) (u32_alike (rest 4 4 alike))
