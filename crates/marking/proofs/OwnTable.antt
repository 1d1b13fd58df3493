-- What the table call writes is a table of the form: its lines are written of its rates, and of the numbers that R-3
-- writes for the factors. These are of the form, since no factor is above the parent's.
use Prim.Native.Nat.{ℕ, zero, suc, ◌+◌, ◌-◌, ◌≤◌, ◌<◌}
use native.Mathlib.Nat.{add-zero, zero-add}
use native.Mathlib.Numerals.{add-one}
use native.Mathlib.Omega.{arith}
use mathlib.Core.Path.{◌≡◌, refl, sym, ap, ap₂, ◌∙◌}
use mathlib.Core.List.{List, [], ◌∷◌, ◌++◌, append_assoc}
use lib.ListN.{length, take, get_or}
use lib.Seq.{take_all}
use Rattle.book.specs.Fields.{members, scale_of}
use Rattle.book.specs.BookGrounds.{Accepted}
use Rattle.book.specs.Rates.{rates_at}
use Rattle.balance.specs.Chain.{chain_of}
use Rattle.balance.specs.Factors.{factors_at, factor_at}
use Rattle.balance.proofs.AnyChain.Reported.{reported_at}
use Rattle.balance.proofs.Call.CallAnswers.{factors_length}
use Rattle.balance.proofs.Promised.{factor_at_most_g}
use Rattle.text.specs.Words.{ascii, decimal, line_feed, each}
use Rattle.text.proofs.Pieces.{each_more}
use Rattle.entry.specs.declared.scaling.Share.{Share}
use Rattle.entry.specs.Form.{form}
use Rattle.tables.specs.Table.{spaced_entry, rate_line, table_text}
use Rattle.tables.specs.Private.Tabulable.{Tabulable}
use Rattle.printed.proofs.OwnEntry.{own_share, own_entry, own_of_form}
use Rattle.marking.specs.Lines.{spaced_shares, line_of}
use Rattle.marking.specs.Promises.{Writable, written}

-- The number that is written for member i on line k.
abbrev pub own_shares : List ℕ → List ℕ → ℕ → ℕ → Share
own_shares book rates k i = own_share (factor_at book (get_or rates k 0) i)

-- Pieces that are the same at each item's place are so together.
each_same :
    (piece other : ℕ → ℕ → List ℕ) (k : ℕ) (items : List ℕ) →
    ((i : ℕ) → i < length items → piece (k + i) (get_or items i 0) ≡ other (k + i) (get_or items i 0)) →
    each piece k items ≡ each other k items
each_same piece other k [] same = refl
each_same piece other k (item ∷ items) same =
    let first = same 0 (omega arith) in
    ap₂ (λ a b. a ++ b) (rw (add-zero k) at first)
    (each_same piece other (suc k) items
    (λ i l. let place : suc k + i ≡ k + suc i = omega arith in rw place (same (suc i) (omega arith))))

module _ (factors : List ℕ) (share : ℕ → Share)
    (is : (i : ℕ) → i < length factors → share i ≡ own_share (get_or factors i 0)) where
  entry_spaced : (i : ℕ) → i < length factors →
      spaced_entry i (get_or factors i 0) ≡ ascii " " ++ form (share i).thousandths (share i).exponent
  entry_spaced i l =
      ap (λ text. ascii " " ++ text)
      (own_entry (get_or factors i 0) ∙ ap (λ s. form s.thousandths s.exponent) (sym (is i l)))

  first_spaced : (i : ℕ) → i ≤ length factors → each spaced_entry 0 (take i factors) ≡ spaced_shares share i
  unfolding spaced_shares
  first_spaced zero l = refl
  first_spaced (suc i) l =
      ap (λ k. each spaced_entry 0 (take k factors)) (sym (add-one i))
      ∙ each_more spaced_entry factors i (omega arith)
      ∙ ap₂ (λ a b. a ++ b) (first_spaced i (omega arith)) (entry_spaced i (omega arith))
      ∙ sym (append_assoc (spaced_shares share i) (ascii " ") (form (share i).thousandths (share i).exponent))

  all_spaced : {n : ℕ} → length factors ≡ n → each spaced_entry 0 factors ≡ spaced_shares share n
  all_spaced {n} size =
      ap (each spaced_entry 0) (sym (take_all n factors (omega arith))) ∙ first_spaced n (omega arith)

module _ (book : List ℕ) (accepted : Accepted book) (rates : List ℕ) where
  line_written : (k : ℕ) →
      rate_line book k (get_or rates k 0) ≡ line_of (members book) (get_or rates k 0) (own_shares book rates k)
  line_written k =
      let rate = get_or rates k 0 in
      let size = factors_length book rate accepted in
      ap (λ entries. decimal rate ++ entries ++ line_feed)
      (all_spaced (factors_at book rate) (own_shares book rates k)
      (λ i l. ap own_share
      (sym (reported_at (scale_of book) (chain_of book) (rates_at book rate) (members book - 1) i (omega arith))))
      size)

  pub table_written : table_text book rates ≡ written (members book) rates (own_shares book rates)
  table_written =
      each_same (rate_line book) (λ k rate. line_of (members book) rate (own_shares book rates k)) 0 rates
      (λ k _. rw (zero-add k) (line_written k))

  pub table_writable : 1 ≤ length rates → Tabulable rates →
      Writable (members book) rates (own_shares book rates)
  table_writable some given =
      record {
        some = some;
        few = given.few;
        low = given.low;
        numbers = λ k i _ l.
            own_of_form (factor_at book (get_or rates k 0) i)
            (factor_at_most_g book (get_or rates k 0) i accepted l);
      }
