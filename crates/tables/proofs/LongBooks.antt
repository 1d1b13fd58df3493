-- A book that is too long is refused, by itself and by its first bytes, on the same ground; and what a refusal answers
-- and leaves does not depend on the book.
use Rattle.std.specs.Prelude.{Err}
use Prim.Native.Nat.{ℕ, ◌+◌, ◌<◌}
use mathlib.Core.Path.{◌≡◌, refl, sym, ap, ◌∙◌}
use mathlib.Core.Bool.{Bool, true, false, cond}
use mathlib.Core.List.{List, [], ◌∷◌}
use lib.ListN.{length, take}
use Rattle.refusals.specs.Grounds.{ground_of, first_met, or_else, Checked, answer_if, written_if}
use Rattle.refusals.specs.declared.Refusal.{Refusal}
use Rattle.refusals.specs.declared.Refusal.TheVariants.{RateTooHigh, RateCountOutOfRange, BufferTooShort}
use Rattle.refusals.proofs.FirstMet.{first_of_both}
use Rattle.book.specs.Fields.{members, feed_count, longest_book}
use Rattle.book.specs.BookGrounds.{book_grounds}
use Rattle.book.proofs.LongBook.{ground_of_long, long_book, long_book_cut}
use Rattle.tables.specs.Table.{table_text}
use Rattle.tables.specs.Answers.{some_rate_too_high, rate_count_out_of_range, buffer_too_short}
use Rattle.tables.specs.Answers.{table_grounds, table_answer, table_buffer}

-- What the call finds where its book is refused.
abbrev found_with : List ℕ → Refusal → Checked
found_with rates r = cond (some_rate_too_high rates) (Err RateTooHigh) (Err r)

book_refused :
    (rates book : List ℕ) (capacity : ℕ) {r : Refusal} → first_met (book_grounds book) ≡ Err r →
    first_met (table_grounds rates book capacity) ≡ found_with rates r
book_refused rates book capacity refused =
    let later =
    ground_of RateCountOutOfRange (rate_count_out_of_range rates)
    ∷ ground_of BufferTooShort (buffer_too_short rates book capacity)
    ∷ []
    in
    ap (cond (some_rate_too_high rates) (Err RateTooHigh))
    (first_of_both (book_grounds book) later ∙ ap (λ found. or_else found (first_met later)) refused)

answer_alike : (high : Bool) (a b : Refusal) (m n : ℕ) →
    answer_if (cond high (Err a) (Err b)) m
    ≡ answer_if (cond high (Err a) (Err b)) n
answer_alike true a b m n = refl
answer_alike false a b m n = refl

buffer_alike : (high : Bool) (a b : Refusal) (text other list : List ℕ) →
    written_if (cond high (Err a) (Err b)) text list
    ≡ written_if (cond high (Err a) (Err b)) other list
buffer_alike true a b text other list = refl
buffer_alike false a b text other list = refl

pub long_book_alike :
    (rates book list : List ℕ) → longest_book < length book →
    (table_answer rates (take (longest_book + 1) book) (length list) ≡ table_answer rates book (length list))
    × (table_buffer rates (take (longest_book + 1) book) list ≡ table_buffer rates book list)
long_book_alike rates book list long =
    let cut = take (longest_book + 1) book in
    let r = ground_of_long (members book) (feed_count book) in
    let here = book_refused rates cut (length list) (long_book_cut book long) in
    let there = book_refused rates book (length list) (long_book book long) in (
      ap (λ found. answer_if found (length (table_text cut rates))) here
          ∙ answer_alike (some_rate_too_high rates) RateTooHigh r (length (table_text cut rates))
          (length (table_text book rates))
          ∙ sym (ap (λ found. answer_if found (length (table_text book rates))) there),
      ap (λ found. written_if found (table_text cut rates) list) here
          ∙ buffer_alike (some_rate_too_high rates) RateTooHigh r (table_text cut rates) (table_text book rates) list
          ∙ sym (ap (λ found. written_if found (table_text book rates) list) there),
    )
