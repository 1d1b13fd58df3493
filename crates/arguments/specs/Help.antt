-- What asks a program how it is used.
use Rattle.std.specs.Prelude.{ℕ, Bool, false, List, [], ◌∷◌}
use Rattle.std.specs.Str.{bytes_eq}
use Rattle.text.specs.Words.{ascii}

-- `--help` alone, after the program's own name.
abbrev pub asks_help : List (List ℕ) → Bool
asks_help [] = false
asks_help (program ∷ []) = false
asks_help (program ∷ word ∷ []) = bytes_eq word (ascii "--help")
asks_help (program ∷ word ∷ more ∷ words) = false
