-- Tests of a number, of every number below another, and of every number in a list.
use Rattle.std.specs.Prelude.{ℕ, zero, suc, ◌<◌, ◌≡◌, Bool, false, ◌||◌, List, [], ◌∷◌, ltb}

-- x isn't low to high.
abbrev pub outside : ℕ → ℕ → ℕ → Bool
outside low high x = ltb x low || ltb high x

-- p holds of some number below n.
unfoldable pub some_below : ℕ → (ℕ → Bool) → Bool
some_below zero p = false
some_below (suc n) p = some_below n p || p n

-- p holds of some number in a list.
unfoldable pub some_in : List ℕ → (ℕ → Bool) → Bool
some_in [] p = false
some_in (x ∷ xs) p = p x || some_in xs p

-- r is whether a number below n passes, where each answer of the test is what p says.
abbrev pub TellsSome : (ℕ → Bool → Type 0) → ℕ → Bool → Type 0
TellsSome says n r = (p : ℕ → Bool) → ((i : ℕ) (b : Bool) → i < n → says i b → b ≡ p i) → r ≡ some_below n p
