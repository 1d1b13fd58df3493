-- What is promised of the marks: every entry has one, where none is the first wrong one none is wrong, and each says of
-- the exact factor what its own promise has.
use Prim.Native.Nat.{ℕ, zero, suc, ◌*◌, ◌<◌}
use native.Mathlib.Nat.{mul-le-mul}
use native.Mathlib.Omega.{arith}
use mathlib.Core.Path.{◌≡◌, refl, sym, ◌∙◌}
use mathlib.Core.Bool.{false, cond}
use mathlib.Core.List.{List, []}
use lib.ListN.{length, get_or}
use Rattle.std.specs.Prelude.{Option, Some, None, Result, Ok, Err, IfOk}
use Rattle.std.specs.Option.{option_map, option_or}
use Rattle.refusals.specs.Grounds.{first_met, Checked, answer_if}
use Rattle.refusals.specs.declared.Refusal.{Refusal}
use Rattle.refusals.proofs.FirstMet.{both_pass, not_met}
use Rattle.numbers.specs.Sums.{sum_below}
use Rattle.book.specs.Fields.{members, scale_of}
use Rattle.book.specs.BookGrounds.{book_grounds, Accepted}
use Rattle.book.specs.Rates.{rates_at}
use Rattle.book.proofs.Rates.{scale_positive}
use Rattle.book.proofs.Ranges.{few_members}
use Rattle.balance.specs.Chain.{chain_of}
use Rattle.balance.specs.Balance.{raised}
use Rattle.balance.specs.Factors.{factor_at}
use Rattle.balance.proofs.Promised.{factor_promises, factor_at_most_g}
use Rattle.printed.specs.declared.mark.Mark.{Mark}
use Rattle.printed.specs.declared.mark.Mark.TheVariants.{Right, Close, Wrong}
use Rattle.printed.proofs.Promised.{mark_promises}
use Rattle.marking.specs.Lines.{lines, rate_in, share_in}
use Rattle.marking.specs.Form.{table_not_of_form}
use Rattle.marking.specs.Marks.{mark_in, mark_at, same_mark, count_of, first_wrong, place_of, marks_of}
use Rattle.marking.specs.Answers.{mark_grounds, marks_answer}
use Rattle.marking.specs.Promises.{MarkedEntry, MarkedPromise, MarkingPromises}
use Rattle.marking.specs.declared.tally.Marks.{Marks}
use Rattle.marking.proofs.Accepted.{few_lines, said}
use Rattle.marking.proofs.ByChecks.{last, in_two}
use Rattle.marking.proofs.Told.{all_told}
use Rattle.marking.proofs.Written.{every_written, only_written}
use Rattle.marking.proofs.OfATable.{of_a_table}
use Rattle.marking.proofs.LongText.{long_text}

-- Where there is no first wrong entry none is counted.
no_later :
    (mark : Mark) (k : ℕ) → cond (same_mark Wrong mark) (Some k) None ≡ None →
    ◌≡◌ {A = ℕ} (cond (same_mark Wrong mark) 1 0) 0
no_later Right k none = refl
no_later Close k none = refl
no_later Wrong k none = absurd cc

neither_first : (a b : Option ℕ) → option_or a b ≡ None → (a ≡ None) × (b ≡ None)
neither_first None b none = (refl, none)
neither_first (Some j) b none = absurd cc

none_counted : (marks : ℕ → Mark) (k : ℕ) → first_wrong marks k ≡ None → count_of Wrong marks k ≡ 0
unfolding sum_below first_wrong
none_counted marks zero none = refl
none_counted marks (suc k) none =
    let both = neither_first (first_wrong marks k) (cond (same_mark Wrong (marks k)) (Some k) None) none in
    omega (arith, none_counted marks k both.0, no_later (marks k) k both.1)

not_placed : (n : ℕ) (first : Option ℕ) → option_map (place_of n) first ≡ None → first ≡ None
not_placed n None none = refl
not_placed n (Some k) none = absurd cc

module _ (text book : List ℕ) (accepted : Accepted book) (of_form : table_not_of_form (members book) text ≡ false) where
  entry_marked : (k i : ℕ) → k < length (lines text) → i < members book → MarkedEntry book (get_or (lines text) k []) i
  unfolding mark_in
  entry_marked k i within member =
      let line = get_or (lines text) k [] in
      let rate = rate_in (members book) line in
      let share = share_in (members book) line i in
      let factor = factor_at book rate i in
      let low = (said (members book) text of_form k within).rate in
      record {
        rate = low;
        points =
            mark_promises.of_any_interval share factor (raised i factor)
            (omega (arith, factor_at_most_g book rate i accepted member));
        exact =
            mark_promises.of_the_exact share (scale_of book) (chain_of book) (rates_at book rate) i factor
            (scale_positive book) (factor_promises.at_a_rate book rate i accepted low member);
      }

  marked_promise : MarkedPromise text book (marks_of book text)
  unfolding marks_of
  marked_promise =
      let marks = mark_at book text in
      let count = length (lines text) * members book in
      let few = few_lines (members book) text of_form in
      record {
        every_entry = all_told (members book) marks count;
        few = omega (arith, all_told (members book) marks count, mul-le-mul few.1 (few_members book accepted));
        no_first = λ none. none_counted marks count (not_placed (members book) (first_wrong marks count) none);
        entries = entry_marked;
      }

-- An answer that is given is that of an accepted text and book.
given :
    (found : Checked) (marks answer : Marks) → answer_if found marks ≡ Ok answer →
    (found ≡ Ok tt) × (marks ≡ answer)
given (Ok tt) marks answer e = (refl, cc)
given (Err refusal) marks answer e = absurd cc

marked : (text book : List ℕ) (marks : Marks) → marks_answer text book ≡ Ok marks → MarkedPromise text book marks
marked text book marks answered =
    let is = given (first_met (mark_grounds text book)) (marks_of book text) marks answered in
    let both = both_pass (first_met (book_grounds book)) (first_met (last text book)) (sym (in_two text book) ∙ is.0) in
    let of_form = not_met (table_not_of_form (members book) text) _ _ both.1 in
    rw (sym is.1) (marked_promise text book both.0 of_form.0)

-- What an answer keeps that is the definition's.
pub kept :
    (text book : List ℕ) (answer : Result Marks Refusal) → answer ≡ marks_answer text book →
    IfOk answer (MarkedPromise text book)
kept text book (Ok marks) e = marked text book marks (sym e)
kept text book (Err refusal) e = tt

pub marking_promises : MarkingPromises
marking_promises =
    record {
      every_written = every_written;
      only_written = only_written;
      marked = marked;
      of_a_table = of_a_table;
      long_text = long_text;
    }
