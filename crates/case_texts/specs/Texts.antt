-- What is written of a recorded case of each kind, given its body. Numbers in a body are little-endian.
use Rattle.refusals.specs.declared.Refusal.{Refusal}
use Rattle.std.specs.Prelude.{ℕ, suc, ℤ, pos, negsuc, ◌+◌, ◌*◌, Result, Ok, Err}
use Rattle.std.specs.Prelude.{List, [], ◌∷◌, ◌++◌, length, take, drop, replicate}
use Rattle.refusals.specs.Grounds.{refusal_number}
use Rattle.numbers.specs.Bytes.{u16_at, u32_at}
use Rattle.book.specs.Held.{up_to}
use Rattle.balance.specs.Factors.{factor_answer, factor_list}
use Rattle.minutes.specs.Periods.{periods_answer, periods_list}
use Rattle.portfolios.specs.Run.{rates_run, rows_left, answers_left}
use Rattle.tables.specs.Answers.{table_answer, table_buffer}
use Rattle.report.specs.BySet.{partner_text}
use Rattle.marking.specs.Text.{marks_text}
use Rattle.text.specs.Words.{ascii, decimal, line_feed}

-- So many numbers of four bytes each, from an offset on.
abbrev pub numbers_at : List ℕ → ℕ → ℕ → List ℕ
numbers_at body offset count = up_to count (λ i. u32_at body (offset + 4 * i))

-- What every place of a lent list, or of a lent buffer, holds before a call.
abbrev pub lent_list : ℕ → List ℕ
lent_list n = replicate n 7

abbrev pub lent_buffer : ℕ → List ℕ
lent_buffer n = replicate n 35

-- The text of each item of a list, after a space.
unfoldable pub spaced : {A : Type 0} → (A → List ℕ) → List A → List ℕ
spaced text [] = []
spaced text (item ∷ list) = ascii " " ++ text item ++ spaced text list

-- Each place of a list.
abbrev pub places : List ℕ → List ℕ
places = spaced decimal

-- How many places were filled, or how many bytes written, after a word; or the refusal's number.
abbrev pub answered : List ℕ → Result ℕ Refusal → List ℕ
answered word (Ok n) = word ++ decimal n
answered word (Err refusal) = ascii "refused " ++ decimal (refusal_number refusal)

-- One line: how many places were filled or the refusal's number, a colon, and every place of the list after the call.
abbrev pub list_line : Result ℕ Refusal → List ℕ → List ℕ
list_line answer list = answered (ascii "filled ") answer ++ ascii " :" ++ places list ++ line_feed

-- The factor call: the rate (u32), how many places the lent list has (u16), the book.
abbrev pub factors_case : List ℕ → List ℕ
factors_case body =
    let book = drop 6 body in
    let list = lent_list (u16_at body 4) in
    list_line (factor_answer (u32_at body 0) book (length list)) (factor_list (u32_at body 0) book list)

-- The call for periods: how many places the lent list has (u16), how many numbers there are (u16), the numbers (u32
-- each), the book.
abbrev pub opening_case : List ℕ → List ℕ
opening_case body =
    let count = u16_at body 2 in
    let periods = numbers_at body 4 count in
    let book = drop (4 + 4 * count) body in
    let list = lent_list (u16_at body 0) in
    list_line (periods_answer periods book (length list)) (periods_list periods book list)

-- The table call: how many bytes the lent buffer has (u32), how many rates there are (u16), the rates (u32 each), the
-- book. Two lines: the text's length or the refusal's number; and every byte of the buffer after the call.
abbrev pub table_case : List ℕ → List ℕ
table_case body =
    let count = u16_at body 4 in
    let rates = numbers_at body 6 count in
    let book = drop (6 + 4 * count) body in
    let buffer = lent_buffer (u32_at body 0) in
    answered (ascii "written ") (table_answer rates book (length buffer)) ++ line_feed ++ table_buffer rates book buffer
    ++ line_feed

-- An answer as a number, in decimal.
abbrev pub signed : ℤ → List ℕ
signed (pos n) = decimal n
signed (negsuc n) = ascii "-" ++ decimal (suc n)

-- The call for many rates: a row's width, how many places the answers have, how many the rows, how many rates there are
-- (u16 each), the rates (u32 each), the book. One line: how many rates were run, a colon, every answer after the call,
-- a colon, and every place of the rows.
abbrev pub rates_case : List ℕ → List ℕ
rates_case body =
    let width = u16_at body 0 in
    let count = u16_at body 6 in
    let rates = numbers_at body 8 count in
    let book = drop (8 + 4 * count) body in
    let answers = replicate (u16_at body 2) (pos 7) in
    let rows = lent_list (u16_at body 4) in
    ascii "run " ++ decimal (length (rates_run rates answers))
    ++ ascii " :" ++ spaced signed (answers_left rates book width answers rows)
    ++ ascii " :" ++ places (rows_left rates book width answers rows)
    ++ line_feed

-- Two parts: the first one's length (u32), the first, the second.
abbrev pub first_part : List ℕ → List ℕ
first_part body = take (u32_at body 0) (drop 4 body)

abbrev pub second_part : List ℕ → List ℕ
second_part body = drop (4 + u32_at body 0) body

-- A second set and a job, as `partner` writes it.
abbrev pub partner_case : List ℕ → List ℕ
partner_case body = partner_text (second_part body) (first_part body)

-- A table and a book, as `marks` writes it.
abbrev pub marks_case : List ℕ → List ℕ
marks_case body = marks_text (first_part body) (second_part body)
