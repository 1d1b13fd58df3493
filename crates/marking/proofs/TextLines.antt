-- The lines of a text that is written are the pieces that were written, since each ends in its only line feed; and a
-- text is its lines, one after the other.
use Rattle.std.proofs.Common.{◌≡◌, ℕ, zero, suc, ◌+◌, ◌<◌, List, [], ◌∷◌, ◌++◌, length, get_or, cond, Bool, true, false}
use Rattle.std.proofs.Common.{refl, sym, ap, ap₂, ◌∙◌, append_assoc, add-zero, arith, eqb}
use Rattle.std.specs.List.{concat}
use Rattle.text.specs.Words.{each}
use Rattle.printed.proofs.NoFeeds.{NoFeed}
use Rattle.marking.specs.Lines.{lines, lines_after}
use Rattle.marking.proofs.LineLaws.{line_by_line, no_lines, one_byte}

-- A piece that is a line.
pub record IsLine (piece : List ℕ) : Type 0 where
  pub front : List ℕ
  pub plain : NoFeed front
  pub is : piece ≡ front ++ 10 ∷ []

-- The pieces themselves.
abbrev pub pieces : (ℕ → ℕ → List ℕ) → ℕ → List ℕ → List (List ℕ)
pieces piece k [] = []
pieces piece k (item ∷ items) = piece k item ∷ pieces piece (suc k) items

pub pieces_length : (piece : ℕ → ℕ → List ℕ) (k : ℕ) (items : List ℕ) → length (pieces piece k items) ≡ length items
pieces_length piece k [] = refl
pieces_length piece k (item ∷ items) = ap suc (pieces_length piece (suc k) items)

pub piece_at :
    (piece : ℕ → ℕ → List ℕ) (k : ℕ) (items : List ℕ) (i : ℕ) → i < length items →
    get_or (pieces piece k items) i [] ≡ piece (k + i) (get_or items i 0)
piece_at piece k [] i within = absurd (omega arith)
piece_at piece k (item ∷ items) zero within = ap (λ j. piece j item) (sym (add-zero k))
piece_at piece k (item ∷ items) (suc i) within =
    piece_at piece (suc k) items i (omega arith) ∙ ap (λ j. piece j (get_or items i 0)) (omega arith)

module _ (piece : ℕ → ℕ → List ℕ) (each_line : (k item : ℕ) → IsLine (piece k item)) where
  pub lines_of_pieces : (k : ℕ) (items : List ℕ) → lines (each piece k items) ≡ pieces piece k items
  lines_of_pieces k [] = no_lines
  lines_of_pieces k (item ∷ items) =
      let first = each_line k item in
      let others = each piece (suc k) items in
      ap (λ l. lines (l ++ others)) first.is
      ∙ ap lines (append_assoc first.front (10 ∷ []) others)
      ∙ line_by_line first.front others first.plain
      ∙ ap₂ (λ l ls. l ∷ ls) (sym first.is) (lines_of_pieces (suc k) items)

pub lines_joined : (so_far text : List ℕ) → concat (lines_after so_far text) ≡ so_far ++ text
unfolding lines_after
lines_joined [] [] = refl
lines_joined (first ∷ others) [] = refl
lines_joined so_far (byte ∷ bytes) =
    ap concat (one_byte so_far byte bytes)
    ∙ ended_or_not (eqb byte 10) (lines_after (so_far ++ byte ∷ []) bytes) (lines_joined [] bytes)
    (lines_joined (so_far ++ byte ∷ []) bytes)
  where
    ended_or_not :
        (ends : Bool) (more : List (List ℕ)) → concat (lines bytes) ≡ bytes →
        concat more ≡ (so_far ++ byte ∷ []) ++ bytes →
        concat (cond ends ((so_far ++ byte ∷ []) ∷ lines bytes) more) ≡ so_far ++ byte ∷ bytes
    ended_or_not true more others runs =
        ap (λ l. (so_far ++ byte ∷ []) ++ l) others ∙ append_assoc so_far (byte ∷ []) bytes
    ended_or_not false more others runs = runs ∙ append_assoc so_far (byte ∷ []) bytes
