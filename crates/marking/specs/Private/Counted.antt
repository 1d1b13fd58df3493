-- One entry more is counted.
use Rattle.std.specs.Prelude.{ℕ, zero, suc, ◌+◌, Some}
use Rattle.std.specs.Option.{option_or}
use Rattle.printed.specs.declared.mark.Mark.{Mark}
use Rattle.printed.specs.declared.mark.Mark.TheVariants.{Right, Close, Wrong}
use Rattle.marking.specs.declared.tally.Marks.{Marks}
use Rattle.marking.specs.declared.tally.Place.{Place}

unfoldable pub counted : Marks → Mark → Place → Marks
counted marks Right place =
    record { right = marks.right + 1; close = marks.close; wrong = marks.wrong; first = marks.first }
counted marks Close place =
    record { right = marks.right; close = marks.close + 1; wrong = marks.wrong; first = marks.first }
counted marks Wrong place =
    record {
      right = marks.right;
      close = marks.close;
      wrong = marks.wrong + 1;
      first = option_or marks.first (Some place);
    }

-- And so of the first i members of a line.
unfoldable pub counted_to : Marks → (ℕ → Mark) → ℕ → ℕ → Marks
counted_to marks mark number zero = marks
counted_to marks mark number (suc i) =
    counted (counted_to marks mark number i) (mark i) (record { line = number + 1; member = i })

abbrev pub entries_in : Marks → ℕ
entries_in marks = marks.right + marks.close + marks.wrong
