-- The sum at the rate is no more than the sum at rate 0, so a quotient capped at one whole is the quotient.
use Rattle.std.proofs.Common.{◌≡◌, ℕ, ◌*◌, ◌≤◌, ◌<◌, false, eqb, sym, ◌∙◌, le_refl, le_trans, lit<, arith}
use Rattle.std.proofs.Math.Nat.{min-eq_right, div-le_of_le-mul}
use borrow.Author.Tests.{eqb-false}
use native.Mathlib.Nat.{pos_of_ne-zero}
use Rattle.wide.specs.Quotient.{LargestQuotient}
use Rattle.wide.proofs.LargestFactor.{least_of_both}
use Rattle.verdict.specs.WorkingLevels.{working_levels, equilibrium}
use Rattle.verdict.proofs.ExactLimbs.{exact_multiple}
use Rattle.verdict.proofs.working.working_levels.Goals as goal

equilibrium_is : {m r z q : ℕ} → LargestQuotient m z 1000000 q → m ≡ r * 1000000 → r ≤ z → 0 < z → q ≡ equilibrium r z
equilibrium_is {m} {r} {z} s e falls pos =
    let whole : m ≡ 1000000 * r = omega arith in
    (rw whole at (least_of_both pos s)) ∙ min-eq_right (div-le_of_le-mul z (omega arith))

pub returns : goal.returns
unfolding working_levels
returns c =
    let some : eqb c.args.at_zero 0 ≡ false = rw c.from.ensures at (sym c.eq.ensures ∙ c.if-eq.false) in
    let pos : 0 < c.args.at_zero = pos_of_ne-zero (eqb-false c.args.at_zero 0 some) in
    let sum = le_trans c.requires.falls c.requires.sums in
    let millions = exact_multiple c.wrapping_mul.ensures sum (le_refl 1000000) (lit< tt) in
    let whole = equilibrium_is c.capped_quotient-quotient.ensures millions c.requires.falls pos in
    rw (some, c.from-equilibrium.ensures, c.from-2.ensures, whole)
