-- What the checks of the call for marks find: those of the book come first, and the last is whether the text is of the
-- form.
use Rattle.std.specs.Prelude.{Ok}
use Prim.Native.Nat.{ℕ}
use mathlib.Core.Path.{◌≡◌, refl, ◌∙◌}
use mathlib.Core.Bool.{false}
use mathlib.Core.List.{List, [], ◌∷◌}
use Rattle.refusals.specs.Grounds.{Ground, ground_of, first_met, or_else}
use Rattle.refusals.specs.declared.Refusal.TheVariants.{TableNotOfForm}
use Rattle.refusals.proofs.FirstMet.{first_of_both}
use Rattle.book.specs.Fields.{members}
use Rattle.book.specs.BookGrounds.{book_grounds, Accepted}
use Rattle.marking.specs.Form.{table_not_of_form}
use Rattle.marking.specs.Answers.{mark_grounds}

module _ (text book : List ℕ) where
  abbrev pub last : List Ground
  last = ground_of TableNotOfForm (table_not_of_form (members book) text) ∷ []

  pub in_two : first_met (mark_grounds text book) ≡ or_else (first_met (book_grounds book)) (first_met last)
  in_two = first_of_both (book_grounds book) last

  pub both_accepted : Accepted book → table_not_of_form (members book) text ≡ false →
      first_met (mark_grounds text book) ≡ Ok tt
  both_accepted accepted of_form = in_two ∙ rw (accepted, of_form) refl
