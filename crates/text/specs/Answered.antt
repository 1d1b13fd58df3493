-- What writing a text to the start of a list answers and leaves.
use Rattle.std.specs.Prelude.{ℕ, Option, Some, None, cond, List, ◌++◌, length, drop, ltb}

-- A text is written to the start of a list where there is room for all of it, and otherwise not at all.
-- What the call answers: the text's length, or none where the list is shorter.
abbrev pub length_written : List ℕ → ℕ → Option ℕ
length_written text capacity = cond (ltb capacity (length text)) None (Some (length text))

-- The list afterwards: the text and then what stood behind it, or the list as it was.
abbrev pub bytes_written : List ℕ → List ℕ → List ℕ
bytes_written text list = cond (ltb (length list) (length text)) list (text ++ drop (length text) list)
