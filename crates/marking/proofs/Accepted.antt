-- What ground 24 says of a text that it passes: it has 1 to 200 lines, and each is of the form.
use Rattle.std.proofs.Common.{◌≡◌, ℕ, ◌<◌, ◌≤◌, false}
use Rattle.std.proofs.Common.{List, [], length, get_or}
use Rattle.std.proofs.Common.{ltb-false, ltb}
use borrow.Author.Tests.{not-false}
use Rattle.numbers.proofs.NoneMet.{neither, none_below}
use Rattle.tables.specs.Answers.{max_rates}
use Rattle.marking.specs.Lines.{lines}
use Rattle.marking.specs.Form.{table_not_of_form}
use Rattle.marking.proofs.LineForm.{OfForm, has_form}

module _ (n : ℕ) (text : List ℕ) (accepted : table_not_of_form n text ≡ false) where
  pub few_lines : (1 ≤ length (lines text)) × (length (lines text) ≤ max_rates)
  unfolding table_not_of_form
  few_lines =
      let ends = neither (ltb (length (lines text)) 1) (ltb max_rates (length (lines text))) (neither _ _ accepted).0 in
      (ltb-false _ _ ends.0, ltb-false _ _ ends.1)

  pub said : (k : ℕ) → k < length (lines text) → OfForm n (get_or (lines text) k [])
  unfolding table_not_of_form
  said k within =
      has_form n (get_or (lines text) k [])
      (not-false _ (none_below (length (lines text)) _ (neither _ _ accepted).1 k within))
