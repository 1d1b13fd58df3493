-- The lines of a table, one after the other: so far each was of the form, and what is told is of their entries. A line
-- that is not of the form, or one too many, makes the whole text not of the form; where all are, and there is one, the
-- text is.
use Rattle.std.proofs.Common.{◌≡◌, ℕ, ◌+◌, ◌*◌, ◌-◌, ◌<◌, ◌≤◌, refl, sym, ap, ap₂, ◌∙◌, arith}
use Rattle.std.proofs.Common.{true, false, not, List, [], ◌∷◌, length, get_or, take, drop, length-drop, drop-drop}
use Rattle.std.specs.Prelude.{None}
use mathlib.Core.Logic.{◌⊎◌, inl, inr}
use Rattle.std.proofs.lemmas.Bool.{cases_order}
use native.Mathlib.Nat.{add-zero, zero-mul}
use mathlib.Core.Bool.{or-true}
use borrow.Author.Tests.{lt-ltb, le-ltb}
use Rattle.std.proofs.lemmas.List.{get_or-drop, nil_from_length}
use Rattle.numbers.specs.Tests.{outside}
use Rattle.numbers.proofs.Tested.{passes_at, none_passes}
use Rattle.book.specs.Fields.{members}
use Rattle.tables.specs.Answers.{max_rates}
use Rattle.marking.specs.Lines.{lines}
use Rattle.marking.specs.Form.{line_of_form, table_not_of_form}
use Rattle.marking.specs.Marks.{mark_at, mark_in, tally_of, marks_of}
use Rattle.marking.specs.declared.tally.Marks.{Marks}
use Rattle.marking.specs.Private.Counted.{counted_to}
use Rattle.marking.proofs.LineLaws.{no_lines}
use Rattle.marking.proofs.Told.{none_told, whole_line_told}

-- After so many lines, with the rest of the text still to read.
pub record SoFar (book text rest : List ℕ) (number : ℕ) (marks : Marks) : Type 0 where
  pub left : lines rest ≡ drop number (lines text)
  pub turns : number ≤ length (lines text)
  pub few : number ≤ max_rates
  pub formed : (k : ℕ) → k < number → line_of_form (members book) (get_or (lines text) k []) ≡ true
  pub told : marks ≡ tally_of (members book) (mark_at book text) (number * members book)

pub begin :
    (book text : List ℕ) → SoFar book text text 0 (record { right = 0; close = 0; wrong = 0; first = None })
begin book text =
    record {
      left = refl;
      turns = omega arith;
      few = omega arith;
      formed = λ k l. absurd (omega arith);
      told =
          sym
          (ap (tally_of (members book) (mark_at book text)) (zero-mul (members book))
          ∙ none_told (members book) (mark_at book text));
    }

module _ {book text rest : List ℕ} {number : ℕ} {marks : Marks} (so : SoFar book text rest number marks) where
  left_length : length (lines rest) ≡ length (lines text) - number
  left_length = ap length so.left ∙ length-drop number (lines text)

  -- The line that comes next.
  module _ {line : List ℕ} {after : List (List ℕ)} (next : lines rest ≡ line ∷ after) where
    one_left : number < length (lines text)
    one_left = omega (arith, ap length next, left_length)

    is_next : get_or (lines text) number [] ≡ line
    is_next =
        ap (λ k. get_or (lines text) k []) (sym (add-zero number))
        ∙ sym (get_or-drop number (lines text) 0 [])
        ∙ ap (λ ls. get_or ls 0 []) (sym so.left ∙ next)

    -- One line too many.
    pub too_many : number ≡ max_rates → table_not_of_form (members book) text ≡ true
    unfolding table_not_of_form
    too_many last =
        let count = length (lines text) in
        rw (le-ltb count 1 (omega (arith, one_left)), lt-ltb max_rates count (omega (arith, one_left))) refl

    pub misformed : line_of_form (members book) line ≡ false → table_not_of_form (members book) text ≡ true
    unfolding table_not_of_form
    misformed other =
        let fails : line_of_form (members book) (get_or (lines text) number []) ≡ false =
        ap (line_of_form (members book)) is_next ∙ other
        in
        rw (passes_at (λ k. not (line_of_form (members book) (get_or (lines text) k []))) (length (lines text)) number
        one_left (ap not fails))
        (or-true (outside 1 max_rates (length (lines text))))

    pub one_more :
        {text_after : List ℕ} {marks_after : Marks} → lines text_after ≡ after → number < max_rates →
        line_of_form (members book) line ≡ true →
        marks_after ≡ counted_to marks (mark_in book line) number (members book) →
        SoFar book text text_after (number + 1) marks_after
    one_more behind more of_form counted =
        record {
          left = behind ∙ ap (drop 1) (sym next ∙ so.left) ∙ drop-drop 1 number (lines text);
          turns = omega (arith, one_left);
          few = omega arith;
          formed = λ k l. by_place k (cases_order k number) l;
          told =
              counted
              ∙ ap₂ (λ m l. counted_to m (mark_in book l) number (members book)) so.told (sym is_next)
              ∙ whole_line_told book text number;
        }
      where
        by_place :
            (k : ℕ) → (k ≡ number) ⊎ (k < number) ⊎ (number < k) → k < number + 1 →
            line_of_form (members book) (get_or (lines text) k []) ≡ true
        by_place k (inl here) l =
            ap (λ j. line_of_form (members book) (get_or (lines text) j [])) here
            ∙ ap (line_of_form (members book)) is_next
            ∙ of_form
        by_place k (inr (inl before)) l = so.formed k before
        by_place k (inr (inr later)) l = absurd (omega arith)

  -- Nothing is left to read.
  module _ (empty : length rest ≡ 0) where
    all_read : number ≡ length (lines text)
    all_read =
        let none : length (lines rest) ≡ 0 =
        ap (λ bytes. length (lines bytes)) (nil_from_length rest empty) ∙ ap length no_lines
        in
        omega (arith, left_length, so.turns)

    pub no_line : number ≡ 0 → table_not_of_form (members book) text ≡ true
    unfolding table_not_of_form
    no_line none = rw (lt-ltb (length (lines text)) 1 (omega (arith, all_read))) refl

    pub all_formed : 0 < number → table_not_of_form (members book) text ≡ false
    unfolding table_not_of_form
    all_formed some =
        rw (
          le-ltb (length (lines text)) 1 (omega (arith, all_read)),
          le-ltb max_rates (length (lines text)) (omega (arith, all_read, so.few)),
        )
        (none_passes (λ k. not (line_of_form (members book) (get_or (lines text) k []))) (length (lines text))
        (λ k l. ap not (so.formed k (omega (arith, all_read)))))

    pub all_marked : marks ≡ marks_of book text
    unfolding marks_of
    all_marked =
        so.told ∙ ap (λ k. tally_of (members book) (mark_at book text) (k * members book)) all_read

-- As the code parts the text, and counts the members.
pub parted :
    (rest : List ℕ) (size : ℕ) {front back : List ℕ} → lines rest ≡ take size rest ∷ lines (drop size rest) →
    front ≡ take size rest → back ≡ drop size rest → lines rest ≡ front ∷ lines back
parted rest size first is behind = first ∙ ap₂ (λ line after. line ∷ lines after) (sym is) (sym behind)
