-- The rate of ventilation, in hundredths of an air change per hour.
use Rattle.std.specs.Prelude.{ℕ, Bool, List, [], ◌∷◌, ltb}
use Rattle.refusals.specs.Grounds.{Checked, ground_of, first_met}
use Rattle.refusals.specs.declared.Refusal.TheVariants.{RateTooHigh}

abbrev pub max_rate : ℕ
max_rate = 100000

-- 3. v exceeds 100,000.
abbrev pub rate_too_high : ℕ → Bool
rate_too_high v = ltb max_rate v

abbrev pub rate_checked : ℕ → Checked
rate_checked v = first_met (ground_of RateTooHigh (rate_too_high v) ∷ [])

-- Member i's rate, where the room's is v.
unfoldable pub rates_at : List ℕ → ℕ → ℕ → ℕ
rates_at book v i = v
