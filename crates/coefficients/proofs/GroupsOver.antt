-- A book with groups of a second set in the place of its first members' own numbers, byte by byte: a member's numbers
-- are those of its group, and every other byte is the book's.
use Prim.Native.Nat.{ℕ, zero, suc, ◌+◌, ◌≤◌, ◌<◌}
use native.Mathlib.Nat.{eq-or-lt_of_le, le_of_suc-le-suc}
use native.Mathlib.Omega.{arith}
use mathlib.Core.Logic.{◌⊎◌, inl, inr}
use mathlib.Core.Path.{◌≡◌, refl, ◌∙◌}
use mathlib.Core.List.{List}
use lib.ListN.{length, get_or, drop, length-drop}
use lib.Seq.{get_or-take, get_or-drop, length-take-le}
use Rattle.std.proofs.lemmas.List.{length-take}
use Rattle.book.specs.Fields.{member_at, first_coefficient}
use Rattle.coefficients.specs.Sets.{group_length, group_at}
use Rattle.coefficients.specs.WrittenOver.{bytes_over, group, groups_over}
use Rattle.coefficients.proofs.BytesOver.{length_over, byte_written, byte_kept}

-- Byte k is none of the numbers of the members below n.
abbrev pub InNoGroup : ℕ → ℕ → Type 0
InNoGroup n k = (i : ℕ) → i < n → first_coefficient i ≤ k → first_coefficient i + group_length ≤ k

-- w is the book with the set's numbers in the place of those of the members below n. What is kept is kept whatever the
-- length of the set.
pub record Written (second book : List ℕ) (n : ℕ) (w : List ℕ) : Type 0 where
  pub size : length w ≡ length book
  pub kept : (k : ℕ) → InNoGroup n k → get_or w k 0 ≡ get_or book k 0
  pub set :
      group_at n ≤ length second → (i r : ℕ) → i < n → r < group_length →
      get_or w (first_coefficient i + r) 0 ≡ get_or second (group_at i + r) 0

group_at_most : (second : List ℕ) (i : ℕ) → length (group second i) ≤ group_length
group_at_most second i = omega (arith, length-take group_length (drop (group_at i) second))

length_group : (second : List ℕ) (i : ℕ) → group_at (suc i) ≤ length second → length (group second i) ≡ group_length
length_group second i enough =
    length-take-le group_length (drop (group_at i) second) (omega (arith, length-drop (group_at i) second))

byte_of_group :
    (second : List ℕ) (i r : ℕ) → r < group_length → get_or (group second i) r 0 ≡ get_or second (group_at i + r) 0
byte_of_group second i r l =
    get_or-take group_length (drop (group_at i) second) r 0 l ∙ get_or-drop (group_at i) second r 0

-- One member's group more.
module _ (second book : List ℕ) (n : ℕ) (fits : member_at (suc n) ≤ length book)
    {list : List ℕ} (before : Written second book n list) where
  abbrev at : ℕ
  at = first_coefficient n

  abbrev bytes : List ℕ
  bytes = group second n

  room : at + length bytes ≤ length list
  room = omega (arith, group_at_most second n, before.size)

  abbrev now : List ℕ
  now = bytes_over at bytes list

  kept : (k : ℕ) → InNoGroup (suc n) k → get_or now k 0 ≡ get_or book k 0
  kept k none =
      byte_kept at bytes list room k (λ l. omega (arith, group_at_most second n, none n (omega arith) l))
      ∙ before.kept k (λ i l. none i (omega arith))

  set : group_at (suc n) ≤ length second → (i r : ℕ) → (i ≡ n) ⊎ (i < n) → r < group_length →
      get_or now (first_coefficient i + r) 0 ≡ get_or second (group_at i + r) 0
  set enough i r (inl same) h =
      rw same
      (byte_written at bytes list room r (omega (arith, length_group second n enough)) ∙ byte_of_group second n r h)
  set enough i r (inr l) h =
      byte_kept at bytes list room (first_coefficient i + r) (λ from. absurd (omega arith))
      ∙ before.set (omega arith) i r l h

  one_more : Written second book (suc n) now
  one_more =
      record {
        size = length_over at bytes list room ∙ before.size;
        kept = kept;
        set = λ enough i r l h. set enough i r (eq-or-lt_of_le (le_of_suc-le-suc l)) h;
      }

pub groups_written :
    (second book : List ℕ) (n : ℕ) → member_at n ≤ length book → Written second book n (groups_over second book n)
unfolding groups_over
groups_written second book zero fits =
    record { size = refl; kept = λ k h. refl; set = λ enough i r l h. absurd (omega arith) }
groups_written second book (suc n) fits =
    one_more second book n fits (groups_written second book n (omega arith))
