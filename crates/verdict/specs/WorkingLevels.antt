-- The equilibrium factor and the working levels (document 01, "Working levels").
use Rattle.std.specs.Prelude.{ℕ, suc, ◌*◌, ◌-◌, ◌/◌, ◌^◌, cond, eqb, Option, None, Some}
use Rattle.numbers.specs.Sums.{sum_below}
use Rattle.verdict.specs.declared.working.WorkingLevels.{WorkingLevels}

-- Which of a member's five numbers is its alpha energy weight w.
abbrev pub alpha_weight : ℕ
alpha_weight = 4

-- The sum over i ≥ 1 of w × factor.
abbrev pub alpha_sum : ℕ → (ℕ → ℕ → ℕ) → (ℕ → ℕ) → ℕ
alpha_sum count coefficient factor = sum_below (count - 1) (λ i. coefficient (suc i) alpha_weight * factor (suc i))

-- Fm, in millionths: the sum at v over the sum at rate 0, rounded down.
abbrev pub equilibrium : ℕ → ℕ → ℕ
equilibrium at_rate at_zero = 1000000 * at_rate / at_zero

-- Micro working levels.
abbrev pub micro_levels : ℕ → ℕ → ℕ → ℕ
micro_levels C Fm W = 10 * C * Fm / (37000 * W)

-- If the divisor is 0 there is none, and no working level.
unfoldable pub working_levels : ℕ → ℕ → ℕ → ℕ → Option WorkingLevels
working_levels at_rate at_zero C W =
    cond (eqb at_zero 0) None
    (Some (record {
      equilibrium = equilibrium at_rate at_zero;
      micro = micro_levels C (equilibrium at_rate at_zero) W;
    }))

-- The numbers of both, as a caller in another language gets them: where there is none, the largest of 64 bits.
abbrev pub no_figure : ℕ
no_figure = 2 ^ 64 - 1

abbrev pub equilibrium_number : Option WorkingLevels → ℕ
equilibrium_number None = no_figure
equilibrium_number (Some levels) = levels.equilibrium

abbrev pub micro_number : Option WorkingLevels → ℕ
micro_number None = no_figure
micro_number (Some levels) = levels.micro
