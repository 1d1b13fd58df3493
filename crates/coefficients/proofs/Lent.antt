-- What the set in use, or its number, says of the bytes that were lent, and of the ground for refusing them.
use Rattle.std.specs.Prelude.{Ok, Err}
use native.Mathlib.Omega.{arith}
use Prim.Native.Nat.{ℕ, ◌≤◌, ◌<◌}
use mathlib.Core.Path.{◌≡◌, refl}
use mathlib.Core.Bool.{false}
use mathlib.Core.List.{List, [], ◌∷◌}
use lib.ListN.{length}
use borrow.Author.Tests.{ne_eqb}
use Rattle.refusals.specs.Grounds.{first_met}
use Rattle.refusals.specs.declared.Refusal.TheVariants.{SecondSetOutOfRange}
use Rattle.refusals.proofs.FirstMet.{not_met}
use Rattle.book.specs.Limits.{max_members}
use Rattle.book.specs.Fields.{members}
use Rattle.coefficients.specs.Sets.{group_at, longest_set, set_in_use, set_number}
use Rattle.coefficients.specs.SetGrounds.{second_set_out_of_range, set_grounds}
use Rattle.coefficients.specs.declared.set.CoefficientSet.{CoefficientSet}

pub not_lent : (second : List ℕ) → set_number (set_in_use second) ≡ 1 → second ≡ []
not_lent [] e = refl
not_lent (byte ∷ bytes) e = absurd (omega arith)

pub lent : (second : List ℕ) → set_number (set_in_use second) ≡ 2 → set_in_use second ≡ CoefficientSet.Second
lent [] e = absurd (omega arith)
lent (byte ∷ bytes) e = refl

pub in_range : (book second : List ℕ) → set_in_use second ≡ CoefficientSet.Second →
    first_met (set_grounds book second) ≡ Ok tt → second_set_out_of_range book second ≡ false
in_range book [] e passed = absurd (let z : ◌≡◌ {A = ℕ} 0 1 = cc in omega arith)
in_range book (byte ∷ bytes) e passed = (not_met (second_set_out_of_range book (byte ∷ bytes)) _ _ passed).0

-- The book counts for its members alone.
pub grounds_same :
    (a b second : List ℕ) → set_in_use second ≡ CoefficientSet.Second → members a ≡ members b →
    first_met (set_grounds a second) ≡ first_met (set_grounds b second)
unfolding second_set_out_of_range
grounds_same a b [] e same = absurd (let z : ◌≡◌ {A = ℕ} 0 1 = cc in omega arith)
grounds_same a b (byte ∷ bytes) e same = rw same refl

-- What is longer than any accepted set is refused.
pub too_long :
    (book second : List ℕ) → members book ≤ max_members → longest_set < length second →
    first_met (set_grounds book second) ≡ Err SecondSetOutOfRange
unfolding second_set_out_of_range
too_long book [] few long = absurd (omega arith)
too_long book (byte ∷ bytes) few long =
    rw (ne_eqb (length (byte ∷ bytes)) (group_at (members book)) (λ e. omega arith)) refl
