-- What is a text to a program that takes bytes.
use Rattle.std.specs.Prelude.{ℕ, ◌&&◌, Bool, true, false, not, nat_eq, List, [], ◌∷◌}
use Rattle.std.specs.List.{list_any}

abbrev pub some_bytes : List ℕ → Bool
some_bytes [] = false
some_bytes (byte ∷ bytes) = true

-- It has a byte, and none that is 0.
abbrev pub is_text : List ℕ → Bool
is_text input = some_bytes input && not (list_any (λ byte. nat_eq byte 0) input)
