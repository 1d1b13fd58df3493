-- The first record of some bytes, and the first case, which has a head of eight bytes; and what is left after it.
use Rattle.std.specs.Prelude.{◌≡◌, ◌≤◌, ℕ, ◌+◌, min, nat_le, nat_lt, cond, MatchBool, Option, None, Some, List, []}
use Rattle.std.specs.Prelude.{◌++◌, length, take, drop}
use Rattle.records.specs.declared.input.Shape.{Shape}
use Rattle.numbers.specs.Bytes.{u16_at}

-- The first record of some bytes, as much of it as there is room for: a length in two bytes, and so many bytes.
abbrev pub first_record : List ℕ → ℕ → List ℕ
first_record all room = take (min room (u16_at all 0)) (drop 2 all)

-- What there is after it.
abbrev pub after_record : List ℕ → ℕ → List ℕ
after_record all room = drop (2 + min room (u16_at all 0)) all

-- The first record of some bytes, or none, and what is left.
abbrev pub IsNextRecord : ℕ → List ℕ → Option (List ℕ) → Option (List ℕ) → Type 0
IsNextRecord room all found left =
    (found ≡ cond (nat_le 2 (length all)) (Some (first_record all room)) None) × (left ≡ Some (after_record all room))

-- A body of one of the shapes that some head may have.
abbrev pub IsShaped : (List ℕ → Option Shape → Type 0) → List ℕ → Type 0
IsShaped shapes body =
    (head : List ℕ) × (rest : List ℕ) × (shape : Shape) × shapes head (Some shape) × (length head ≡ 8)
    × (shape.least ≤ length rest)
    × (length rest ≤ shape.rest) × (body ≡ take shape.begin head ++ rest)

-- The body of a case of some shape, with its head and what follows;
-- none where there is no shape, or too little follows.
abbrev pub body_of : Option Shape → List ℕ → List ℕ → Option (List ℕ)
body_of None head after = None
body_of (Some shape) head after =
    let rest = take shape.rest after in
    cond (nat_lt (length rest) shape.least) None (Some (take shape.begin head ++ rest))

-- What there is after the case.
abbrev pub after_case : Option Shape → List ℕ → List ℕ
after_case None after = after
after_case (Some shape) after = drop shape.rest after

-- The first case of some bytes, whose head is eight bytes,
-- and what is left: of one of the shapes that its head may have.
unfoldable pub IsNextCase : (List ℕ → Option Shape → Type 0) → List ℕ → Option (List ℕ) → Option (List ℕ) → Type 0
IsNextCase shapes all found left =
    MatchBool (nat_le 8 (length all))
    ((shape : Option Shape) × shapes (take 8 all) shape × (found ≡ body_of shape (take 8 all) (drop 8 all))
    × (left ≡ Some (after_case shape (drop 8 all))))
    ((found ≡ None) × (left ≡ Some []))
