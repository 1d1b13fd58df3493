-- Places of a list filled with what a closure makes for their numbers.
use Rattle.std.specs.Prelude.{ℕ, ◌<◌, ◌≡◌, List}
use Rattle.book.specs.Held.{filled}

-- Where the closure makes `f` of each number, the first `count` places hold that, and the others what they held.
abbrev pub IsFilled : {A : Type 0} → (ℕ → A → Type 0) → ℕ → List A → List A → Type 0
IsFilled {A} made count list now =
    (f : ℕ → A) → ((i : ℕ) (x : A) → i < count → made i x → x ≡ f i) → now ≡ filled count f list
