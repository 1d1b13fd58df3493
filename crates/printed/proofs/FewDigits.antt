-- What a few digits write stays far within a word, whatever bytes stand in their places.
use Prim.Native.Nat.{ℕ, ◌+◌, ◌*◌, ◌^◌, ◌≤◌, ◌<◌}
use mathlib.Core.Path.{◌≡◌, refl}
use mathlib.Core.List.{List}
use native.Mathlib.Nat.{pow-suc, pow-le-pow_right}
use native.Mathlib.Numerals.{add-one}
use native.Mathlib.Omega.{arith}
use Rattle.printed.specs.Places.{digit_at, number_at}

pub one_more :
    (bytes : List ℕ) (at k : ℕ) → number_at bytes at (k + 1) ≡ number_at bytes at k * 10 + digit_at bytes (at + k)
unfolding number_at
one_more bytes at k = rw (add-one k) refl

module _ {number digit : ℕ} (k : ℕ) (so_far : number < 1000 ^ k) (byte : digit < 256) where
  pub next_small : number * 10 + digit < 1000 ^ (k + 1)
  next_small = rw (add-one k) (omega (arith, pow-suc 1000 k))

  pub next_fits : {digits : ℕ} → digits ≤ 6 → k < digits → number * 10 + digit < 2 ^ 64
  next_fits few turn =
      let most : 1000 ^ k ≤ 1000 ^ 5 = pow-le-pow_right {n = 1000} (omega arith) {i = k} {j = 5} (omega arith) in
      omega arith
