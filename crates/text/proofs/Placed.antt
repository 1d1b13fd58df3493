-- What copying a word into its place of a list leaves: the word after what stood before the place, and behind it what
-- stood there.
use Rattle.std.proofs.Common.{ℕ, ◌+◌, ◌≤◌, ◌≡◌, ap, sym, ◌∙◌, List, ◌++◌, length, take, drop}
use Rattle.std.proofs.Common.{arith, length-append, append_assoc}
use Rattle.std.proofs.lemmas.List.{take_at, drop_at, length-take-le, drop-drop}

module _ (list word : List ℕ) (at : ℕ) (fits : at + length word ≤ length list) where
  abbrev rest : List ℕ
  rest = drop (length word) (drop at list)

  front : length (take at list ++ word) ≡ at + length word
  front = simp length-append (omega (arith, length-take-le at list (omega arith)))

  apart : take at list ++ (word ++ rest) ≡ take at list ++ word ++ rest
  apart = sym (append_assoc (take at list) word rest)

  pub placed :
      (take (at + length word) (take at list ++ (word ++ rest)) ≡ take at list ++ word)
      × (drop (at + length word) (take at list ++ (word ++ rest)) ≡ drop (at + length word) list)
  placed = (
    ap (take (at + length word)) apart ∙ take_at (take at list ++ word) rest (at + length word) front,
    ap (drop (at + length word)) apart
        ∙ drop_at (take at list ++ word) rest (at + length word) front
        ∙ drop-drop (length word) at list,
  )
