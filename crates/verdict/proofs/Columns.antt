-- Sums over the members by columns, one of the members' numbers in each: a weight is a sum of two such numbers, each
-- times what all members have in common, and the alpha energy weight is one of them.
use Prim.Native.Nat.{ℕ, suc, ◌+◌, ◌-◌, ◌*◌, ◌^◌, ◌≤◌, min}
use native.Mathlib.Omega.{arith}
use mathlib.Core.Path.{◌≡◌, ap}
use mathlib.Core.List.{List, [], ◌∷◌}
use lib.ListN.{length, get_or, take, drop}
use Rattle.std.proofs.Common.{take_all, Fits, w64}
use Rattle.numbers.specs.Sums.{sum_below}
use Rattle.numbers.proofs.Sums.{sum_add, sum_scale, sum_same}
use Rattle.balance.specs.Balance.{G}
use Rattle.verdict.specs.Verdict.{inhalation, submersion}
use Rattle.verdict.specs.WorkingLevels.{alpha_weight}
use Rattle.verdict.specs.HeldNumbers.{number_in, raised_in, term_in, alpha_in}
use Rattle.verdict.specs.declared.verdict.Criterion.{Criterion}

two_parts : (a b h s f : ℕ) → (a * h + b * s) * f ≡ h * f * a + s * f * b
two_parts a b h s f = omega arith

-- What the terms have in common is taken out of their sum.
sum_by_columns :
    (n a b : ℕ) (h s f : ℕ → ℕ) →
    sum_below n (λ i. (a * h i + b * s i) * f i)
    ≡ a * sum_below n (λ i. h i * f i) + b * sum_below n (λ i. s i * f i)
sum_by_columns n a b h s f =
    let parts = sum_same n (λ i l. two_parts a b (h i) (s i) (f i)) in
    let apart = sum_add n (λ i. h i * f i * a) (λ i. s i * f i * b) in
    omega (arith, parts, apart, sum_scale n a (λ i. h i * f i), sum_scale n b (λ i. s i * f i))

pub by_columns :
    (n : ℕ) (by : Criterion) (coefficients : List (List ℕ)) (factors : List ℕ) (margin : ℕ) →
    sum_below n (term_in by coefficients factors margin)
    ≡ 365 * by.x * sum_below n (raised_in coefficients factors (inhalation by.kind) margin G)
    + by.y * sum_below n (raised_in coefficients factors (submersion by.kind) margin G)
by_columns n by coefficients factors margin =
    sum_by_columns n (365 * by.x) by.y _ _ (λ i. min (get_or factors i 0 + margin * i) G)

-- What the slice from place k on holds.
abbrev rest : {X : Type 0} → ℕ → List X → List X
rest k list = take (length list - k) (drop k list)

-- A factor with no margin, under a cap that it does not pass.
pub uncapped : (f i cap : ℕ) → f ≤ cap → min (f + 0 * i) cap ≡ f
uncapped f i cap h = omega arith

-- The column of every member but the gas, with no margin and a cap that no factor passes.
pub alpha_column :
    (coefficients : List (List ℕ)) (factors : List ℕ) (first : ℕ) →
    first ≡ min (length factors) 1 → length coefficients ≡ length factors →
    ((i : ℕ) → Fits w64 (get_or factors i 0)) →
    sum_below
    (length (rest first factors))
    (raised_in (rest first coefficients) (rest first factors) alpha_weight 0 (2 ^ 64 - 1))
    ≡ alpha_in coefficients factors
unfolding sum_below
alpha_column [] [] first e same fits = rw e
alpha_column (row ∷ rows) [] first e same fits = absurd (omega arith)
alpha_column [] (f ∷ fs) first e same fits = absurd (omega arith)
alpha_column (row ∷ rows) (f ∷ fs) first e same fits =
    let one : first ≡ 1 = omega arith in
    let others : suc (length fs) - 1 ≡ length fs = omega arith in
    rw (
      one,
      take_all (suc (length rows) - 1) rows (omega arith),
      take_all (suc (length fs) - 1) fs (omega arith),
      others,
    )
    (sum_same (length fs)
    (λ i l. ap (λ f. number_in rows i alpha_weight * f)
    (uncapped (get_or fs i 0) i (2 ^ 64 - 1) (omega (arith, (fits (suc i)).fits)))))
