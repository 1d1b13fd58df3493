-- The number that a list of 32-bit limbs stands for, the least significant limb first.
use Rattle.std.specs.Prelude.{ℕ, ◌+◌, ◌*◌, ◌^◌, List, [], ◌∷◌}

abbrev pub value : List ℕ → ℕ
value [] = 0
value (limb ∷ limbs) = limb + 2 ^ 32 * value limbs

-- Six limbs hold every number below this one; results are exact modulo it.
abbrev pub modulus : ℕ
modulus = 2 ^ 192
