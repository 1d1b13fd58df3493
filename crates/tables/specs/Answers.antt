-- The table call: a list of rates, a book and a lent buffer in; checks 3, 9 to 18, 20, 21.
use Rattle.refusals.specs.declared.Refusal.{Refusal}
use Rattle.std.specs.Prelude.{ℕ, ◌+◌, ◌*◌, Bool, List, [], ◌∷◌, ◌++◌, length, get_or, ltb, Result}
use Rattle.refusals.specs.Grounds.{Ground, ground_of, first_met, written_if, answer_if}
use Rattle.refusals.specs.declared.Refusal.TheVariants.{RateTooHigh, RateCountOutOfRange, BufferTooShort}
use Rattle.book.specs.Limits.{max_members}
use Rattle.numbers.specs.Tests.{outside, some_below}
use Rattle.book.specs.BookGrounds.{book_grounds}
use Rattle.book.specs.Rates.{rate_too_high}
use Rattle.tables.specs.Table.{table_text}

abbrev pub max_rates : ℕ
max_rates = 200

-- No line is longer: a rate of at most six digits, a space and nine characters for each member, and a line feed. So no
-- text is longer.
abbrev pub line_room : ℕ
line_room = 6 + max_members * (1 + 9) + 1

abbrev pub table_room : ℕ
table_room = max_rates * line_room

-- 3. A rate exceeds 100,000.
unfoldable pub some_rate_too_high : List ℕ → Bool
some_rate_too_high rates = some_below (length rates) (λ i. rate_too_high (get_or rates i 0))

-- 20. The list of rates is empty or over 200.
abbrev pub rate_count_out_of_range : List ℕ → Bool
rate_count_out_of_range rates = outside 1 max_rates (length rates)

-- 21. The text is longer than the buffer.
abbrev pub buffer_too_short : List ℕ → List ℕ → ℕ → Bool
buffer_too_short rates book capacity = ltb capacity (length (table_text book rates))

-- All but the last are looked for before the text's length is known.
abbrev pub earlier_grounds : List ℕ → List ℕ → List Ground
earlier_grounds rates book =
    ground_of RateTooHigh (some_rate_too_high rates)
    ∷ book_grounds book
    ++ (ground_of RateCountOutOfRange (rate_count_out_of_range rates) ∷ [])

abbrev pub table_grounds : List ℕ → List ℕ → ℕ → List Ground
table_grounds rates book capacity =
    earlier_grounds rates book ++ (ground_of BufferTooShort (buffer_too_short rates book capacity) ∷ [])

-- Accepted, the call answers the text's length.
abbrev pub table_answer : List ℕ → List ℕ → ℕ → Result ℕ Refusal
table_answer rates book capacity =
    answer_if (first_met (table_grounds rates book capacity)) (length (table_text book rates))

-- Bytes past the text are untouched, and a refusal touches none.
abbrev pub table_buffer : List ℕ → List ℕ → List ℕ → List ℕ
table_buffer rates book list =
    written_if (first_met (table_grounds rates book (length list))) (table_text book rates) list
