-- What is promised of a table's length, and of a book's.
use Rattle.std.specs.Prelude.{ℕ, pos, ◌+◌, ◌≤◌, ◌<◌, ◌≡◌, List, length, take}
use Rattle.refusals.specs.Grounds.{refused_number, answer_number}
use Rattle.refusals.specs.declared.Refusal.TheVariants.{BufferTooShort}
use Rattle.book.specs.Fields.{longest_book}
use Rattle.tables.specs.Answers.{table_room, table_answer, table_buffer}

pub record TablePromises : Type 0 where
  -- a text that is written is within the buffer, and within the room that is enough for every table
  pub within :
      (rates book : List ℕ) (capacity n : ℕ) → answer_number (table_answer rates book capacity) ≡ pos n →
      (n ≤ capacity) × (n ≤ table_room)
  -- with that room no buffer is too short
  pub enough :
      (rates book : List ℕ) (capacity : ℕ) → table_room ≤ capacity →
      answer_number (table_answer rates book capacity) ≡ refused_number BufferTooShort → ⊥
  -- of a book that is longer than any that is accepted, one byte more than that is enough: answer and buffer are the
  -- same
  pub long_book :
      (rates book list : List ℕ) → longest_book < length book →
      (table_answer rates (take (longest_book + 1) book) (length list) ≡ table_answer rates book (length list))
      × (table_buffer rates (take (longest_book + 1) book) list ≡ table_buffer rates book list)
