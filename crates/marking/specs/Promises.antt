-- What is promised of the marks of a table from elsewhere (document 02, R-8).
use Rattle.std.specs.Prelude.{ℕ, ◌+◌, ◌*◌, ◌≤◌, ◌<◌, ◌≡◌, true, false, List, [], length, get_or, take}
use Rattle.std.specs.Prelude.{None, Ok}
use Rattle.text.specs.Words.{each}
use Rattle.book.specs.Limits.{max_members}
use Rattle.book.specs.Rates.{max_rate, rates_at}
use Rattle.book.specs.Fields.{members, scale_of}
use Rattle.balance.specs.Chain.{chain_of}
use Rattle.balance.specs.Balance.{raised}
use Rattle.balance.specs.Factors.{factor_at}
use Rattle.entry.specs.declared.scaling.Share.{Share}
use Rattle.tables.specs.Answers.{max_rates, table_room, table_answer, table_buffer}
use Rattle.printed.specs.Places.{of_form}
use Rattle.printed.specs.Promises.{MarkPromise, ExactPromise}
use Rattle.marking.specs.Lines.{lines, line_of, rate_in, share_in}
use Rattle.marking.specs.Form.{table_not_of_form}
use Rattle.marking.specs.Marks.{mark_in}
use Rattle.marking.specs.Answers.{marks_answer}
use Rattle.marking.specs.declared.tally.Marks.{Marks}

-- What a table of n members can be written of: 1 to 200 rates to 100,000, and for each of them a number of the form for
-- each member; share k i is member i's on line k.
pub record Writable (n : ℕ) (rates : List ℕ) (share : ℕ → ℕ → Share) : Type 0 where
  pub some : 1 ≤ length rates
  pub few : length rates ≤ max_rates
  pub low : (k : ℕ) → k < length rates → get_or rates k 0 ≤ max_rate
  pub numbers : (k i : ℕ) → k < length rates → i < n → of_form (share k i) ≡ true

-- How it is written: a line for each rate.
abbrev pub written : ℕ → List ℕ → (ℕ → ℕ → Share) → List ℕ
written n rates share = each (λ k rate. line_of n rate (share k)) 0 rates

-- Of a table that is written: it is of the form, and what is read of it is what was written.
pub record ReadBack (n : ℕ) (rates : List ℕ) (share : ℕ → ℕ → Share) : Type 0 where
  pub accepted : table_not_of_form n (written n rates share) ≡ false
  pub count : length (lines (written n rates share)) ≡ length rates
  pub rate : (k : ℕ) → k < length rates → rate_in n (get_or (lines (written n rates share)) k []) ≡ get_or rates k 0
  pub number : (k i : ℕ) → k < length rates → i < n →
      share_in n (get_or (lines (written n rates share)) k []) i ≡ share k i

-- Of member i's entry on a line of an accepted table: what its mark says of every point of its interval, and of the
-- exact factor at the line's own rate.
pub record MarkedEntry (book line : List ℕ) (i : ℕ) : Type 0 where
  pub rate : rate_in (members book) line ≤ max_rate
  pub points :
      let factor = factor_at book (rate_in (members book) line) i in
      MarkPromise (share_in (members book) line i) factor (raised i factor) (mark_in book line i)
  pub exact :
      ExactPromise (share_in (members book) line i) (scale_of book) (chain_of book)
      (rates_at book (rate_in (members book) line)) i (mark_in book line i)

-- Of an accepted table: every entry has one mark, and where none is the first wrong one none is wrong.
pub record MarkedPromise (text book : List ℕ) (marks : Marks) : Type 0 where
  pub every_entry : marks.right + marks.close + marks.wrong ≡ length (lines text) * members book
  pub few : marks.right + marks.close + marks.wrong ≤ max_rates * max_members
  pub no_first : marks.first ≡ None → marks.wrong ≡ 0
  pub entries : (k i : ℕ) → k < length (lines text) → i < members book →
      MarkedEntry book (get_or (lines text) k []) i

pub record MarkingPromises : Type 0 where
  -- 24 passes exactly the tables that are written of rates to 100,000 and numbers of the form, and reads these
  pub every_written :
      (n : ℕ) (rates : List ℕ) (share : ℕ → ℕ → Share) → Writable n rates share → ReadBack n rates share
  pub only_written :
      (n : ℕ) (text : List ℕ) → table_not_of_form n text ≡ false →
      (rates : List ℕ) × (share : ℕ → ℕ → Share) × Writable n rates share × (text ≡ written n rates share)
  -- a right entry is within half a unit of its last place of the exact factor, and a wrong one is not
  pub marked : (text book : List ℕ) (marks : Marks) → marks_answer text book ≡ Ok marks → MarkedPromise text book marks
  -- of two calls: what the table call leaves in a buffer is accepted with its book, and no entry is wrong
  pub of_a_table :
      (rates book list : List ℕ) (size : ℕ) → table_answer rates book (length list) ≡ Ok size →
      (marks : Marks)
      × (marks_answer (take size (table_buffer rates book list)) book ≡ Ok marks)
      × (marks.wrong ≡ 0)
      × (marks.first ≡ None)
  -- a text that is longer than any table is answered as its first bytes, one more than the longest has
  pub long_text :
      (text book : List ℕ) → table_room < length text →
      marks_answer (take (table_room + 1) text) book ≡ marks_answer text book
