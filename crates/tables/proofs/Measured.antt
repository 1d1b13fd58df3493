-- One line after another is counted: one line more is the digits of its rate, the entries and the line feed. However
-- many of a table's lines are counted, they are no longer than the table, and so than the room for every table.
use Prim.Native.Nat.{ℕ, ◌+◌, ◌*◌, ◌≤◌, ◌<◌}
use native.Mathlib.Omega.{arith}
use mathlib.Core.Path.{◌≡◌, ap}
use mathlib.Core.List.{List}
use lib.ListN.{length, take, get_or, length-append}
use Rattle.book.specs.Fields.{members}
use Rattle.book.specs.BookGrounds.{Accepted}
use Rattle.text.specs.Words.{decimal, each}
use Rattle.text.proofs.Pieces.{each_more, each_within}
use Rattle.tables.specs.Table.{rate_line}
use Rattle.tables.specs.Answers.{table_room}
use Rattle.tables.specs.Private.Tabulable.{Tabulable}
use Rattle.tables.proofs.RateLine.{line_length}
use Rattle.tables.proofs.Promised.{table_fits}

module _
    (book : List ℕ) (accepted : Accepted book) {rates : List ℕ} {i total rate digits count : ℕ}
    (given : Tabulable rates)
    (turn : i < length rates) (is : rate ≡ get_or rates i 0) (counted : digits ≡ length (decimal rate))
    (listed : count ≡ members book) (so_far : total ≡ length (each (rate_line book) 0 (take i rates))) where
  line : digits + (count * 10 + 1) ≡ length (rate_line book i (get_or rates i 0))
  line = omega (arith, line_length book accepted (get_or rates i 0) i, ap (λ v. length (decimal v)) is)

  pub line_more : total + (digits + (count * 10 + 1)) ≡ length (each (rate_line book) 0 (take (i + 1) rates))
  line_more = rw (each_more (rate_line book) rates i turn, length-append) (omega (arith, line))

  pub line_fits : total + (digits + (count * 10 + 1)) ≤ table_room
  line_fits = omega (arith, line, each_within (rate_line book) rates i turn, table_fits rates book accepted given)

-- What a turn of the count leaves, and that it fits a word.
pub ruleset counting = (line_more, line_fits)
