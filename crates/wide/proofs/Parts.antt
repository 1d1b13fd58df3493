-- A sum over a divisor in parts: the quotient of one part, and that of what it leaves with the other.
use Rattle.std.proofs.Common.{◌≡◌, ℕ, ◌+◌, ◌/◌, ◌%◌, ◌^◌, ◌<◌, sym, ap, ◌∙◌, div-add-mod', arith}
use Rattle.std.proofs.Math.Nat.{mod-add-mod, mul-add-div_right}

pub in_parts : (x y e : ℕ) → 0 < e → (x / e % 2 ^ 64 + (x % e + y) / e) % 2 ^ 64 ≡ (x + y) / e % 2 ^ 64
in_parts x y e pos =
    mod-add-mod (x / e) (2 ^ 64) ((x % e + y) / e)
    ∙ ap (λ q. q % 2 ^ 64) (sym (mul-add-div_right pos (x / e) (x % e + y)))
    ∙ ap (λ n. n / e % 2 ^ 64) (omega (arith, div-add-mod' x e))
