-- Of two calls: the table call answers where its checks pass, and then its text stands at the buffer's beginning. With
-- the same book that text is accepted, since its rates and numbers are such as may be said, and no entry is wrong.
use Prim.Native.Nat.{ℕ}
use mathlib.Core.Path.{◌≡◌, sym, ap, ap₂, ◌∙◌}
use mathlib.Core.List.{List}
use lib.ListN.{length, take, drop}
use Rattle.std.specs.Prelude.{None, Ok}
use Rattle.std.proofs.Math.Seq.{take-append_seam}
use Rattle.refusals.specs.Grounds.{first_met, answer_if, answer_number, written_if}
use Rattle.refusals.proofs.FirstMet.{both_pass}
use Rattle.book.specs.Fields.{members}
use Rattle.balance.proofs.Call.CallAnswers.{filled_passed}
use Rattle.tables.specs.Table.{table_text}
use Rattle.tables.specs.Answers.{earlier_grounds, table_grounds, table_answer, table_buffer}
use Rattle.tables.proofs.ByChecks.{passed, some_rate, in_two}
use Rattle.marking.specs.Marks.{marks_of}
use Rattle.marking.specs.Answers.{marks_answer}
use Rattle.marking.specs.Promises.{ReadBack, written}
use Rattle.marking.specs.declared.tally.Marks.{Marks}
use Rattle.marking.proofs.ByChecks.{both_accepted}
use Rattle.marking.proofs.OwnTable.{own_shares, table_written, table_writable}
use Rattle.marking.proofs.NoneWrong.{no_wrong}
use Rattle.marking.proofs.Written.{every_written}

-- The text is accepted with the book, and no entry is wrong.
abbrev NothingWrong : List ℕ → List ℕ → Type 0
NothingWrong text book =
    (marks : Marks) × (marks_answer text book ≡ Ok marks) × (marks.wrong ≡ 0) × (marks.first ≡ None)

text_marked : (rates book : List ℕ) → first_met (earlier_grounds rates book) ≡ Ok tt →
    NothingWrong (table_text book rates) book
text_marked rates book earlier =
    let checked = passed rates book earlier in
    let accepted = checked.0 in
    let share = own_shares book rates in
    let writable = table_writable book accepted rates (some_rate rates book earlier) checked.1 in
    let read : ReadBack (members book) rates share = every_written (members book) rates share writable in
    let none = no_wrong book accepted rates read in
    let text = written (members book) rates share in
    rw (table_written book accepted rates) (
      marks_of book text,
      ap (λ found. answer_if found (marks_of book text)) (both_accepted text book accepted read.accepted),
      none.0,
      none.1,
    )

pub of_a_table :
    (rates book list : List ℕ) (size : ℕ) → table_answer rates book (length list) ≡ Ok size →
    NothingWrong (take size (table_buffer rates book list)) book
of_a_table rates book list size answered =
    let text = table_text book rates in
    let rest = drop (length text) list in
    let found = first_met (table_grounds rates book (length list)) in
    let answer = filled_passed found (length text) size (ap answer_number answered) in
    let both =
    both_pass (first_met (earlier_grounds rates book)) _ (sym (in_two rates book (length list)) ∙ answer.0) in
    let left : take size (table_buffer rates book list) ≡ text =
    ap₂ (λ n f. take n (written_if f text list)) (sym answer.1) answer.0 ∙ take-append_seam text rest
    in
    rw left (text_marked rates book both.0)
