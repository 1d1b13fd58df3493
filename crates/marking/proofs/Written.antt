-- The tables that ground 24 passes are those that are written: each line that is written is of the form and is read
-- back, and of an accepted text the rates and numbers that are read, written again, give its lines, which are the text.
use Rattle.std.proofs.Common.{◌≡◌, ℕ, zero, suc, ◌+◌, ◌<◌, true, false, not}
use Rattle.std.proofs.Common.{List, [], ◌∷◌, ◌++◌, length, get_or, map, refl, sym, ap, ap₂, ◌∙◌, arith}
use Rattle.std.proofs.Common.{le-ltb, add-zero}
use native.Mathlib.Nat.{zero-add}
use Rattle.std.proofs.lemmas.List.{length-map, get_or-map}
use Rattle.std.specs.List.{concat}
use Rattle.numbers.proofs.Tested.{none_passes}
use Rattle.text.specs.Words.{ascii, decimal, each}
use Rattle.entry.specs.declared.scaling.Share.{Share}
use Rattle.entry.specs.Form.{form}
use Rattle.tables.specs.Answers.{max_rates}
use Rattle.printed.proofs.NoFeeds.{AllAbove, no_feed, both_above, decimal_above, form_above}
use Rattle.marking.specs.Lines.{lines, line_of, spaced_shares, rate_in, share_in}
use Rattle.marking.specs.Form.{line_of_form, table_not_of_form}
use Rattle.marking.specs.Promises.{Writable, ReadBack, written}
use Rattle.marking.proofs.Accepted.{few_lines, said}
use Rattle.marking.proofs.LineBack.{rate_back, member_back, of_form_written}
use Rattle.marking.proofs.TextLines.{IsLine, pieces, pieces_length, piece_at, lines_of_pieces, lines_joined}

shares_above : (share : ℕ → Share) (n : ℕ) → AllAbove (spaced_shares share n)
unfolding spaced_shares
shares_above share zero = tt
shares_above share (suc n) =
    let front = spaced_shares share n in
    let space : AllAbove (ascii " ") = (omega arith, tt) in
    let number = form_above (share n).thousandths (share n).exponent in
    both_above (front ++ ascii " ") (form (share n).thousandths (share n).exponent)
    (both_above front (ascii " ") (shares_above share n) space) number

is_line : (n rate : ℕ) (share : ℕ → Share) → IsLine (line_of n rate share)
is_line n rate share =
    record {
      front = decimal rate ++ spaced_shares share n;
      plain =
          no_feed (decimal rate ++ spaced_shares share n)
          (both_above (decimal rate) (spaced_shares share n) (decimal_above rate) (shares_above share n));
      is = refl;
    }

module _ (n : ℕ) (rates : List ℕ) (share : ℕ → ℕ → Share) where
  abbrev text : List ℕ
  text = written n rates share

  abbrev line_for : ℕ → ℕ → List ℕ
  line_for k rate = line_of n rate (share k)

  its_lines : lines text ≡ pieces line_for 0 rates
  its_lines = lines_of_pieces line_for (λ k rate. is_line n rate (share k)) 0 rates

  as_many : length (lines text) ≡ length rates
  as_many = ap length its_lines ∙ pieces_length line_for 0 rates

  line_at : (k : ℕ) → k < length rates → get_or (lines text) k [] ≡ line_for k (get_or rates k 0)
  line_at k within =
      ap (λ ls. get_or ls k []) its_lines ∙ piece_at line_for 0 rates k within
      ∙ ap (λ j. line_for j (get_or rates k 0)) (zero-add k)

  module _ (writable : Writable n rates share) where
    in_form : (k : ℕ) → k < length rates → line_of_form n (get_or (lines text) k []) ≡ true
    in_form k within =
        ap (line_of_form n) (line_at k within)
        ∙ of_form_written n (get_or rates k 0) (share k) (writable.low k within) (λ i l. writable.numbers k i within l)

    passes : table_not_of_form n text ≡ false
    unfolding table_not_of_form
    passes =
        rw (as_many, le-ltb (length rates) 1 writable.some, le-ltb max_rates (length rates) writable.few)
        (none_passes _ (length rates) (λ k l. ap not (in_form k l)))

    pub every_written : ReadBack n rates share
    every_written =
        record {
          accepted = passes;
          count = as_many;
          rate = λ k within.
              ap (rate_in n) (line_at k within)
              ∙ rate_back n (get_or rates k 0) (share k) (writable.low k within);
          number = λ k i within less.
              ap (λ l. share_in n l i) (line_at k within)
              ∙ member_back n (get_or rates k 0) (share k) i less (writable.numbers k i within less);
        }

-- Lines that are each written of what they say, one after the other.
each_joined :
    (piece : ℕ → ℕ → List ℕ) (rate : List ℕ → ℕ) (k : ℕ) (ls : List (List ℕ)) →
    ((i : ℕ) → i < length ls → get_or ls i [] ≡ piece (k + i) (rate (get_or ls i []))) →
    concat ls ≡ each piece k (map rate ls)
each_joined piece rate k [] same = refl
each_joined piece rate k (l ∷ ls) same =
    ap₂ (λ a b. a ++ b) (same 0 (omega arith) ∙ ap (λ j. piece j (rate l)) (add-zero k))
    (each_joined piece rate (suc k) ls
    (λ i within. same (suc i) (omega arith) ∙ ap (λ j. piece j (rate (get_or ls i []))) (omega arith)))

module _ (n : ℕ) (text : List ℕ) (accepted : table_not_of_form n text ≡ false) where
  abbrev rates_read : List ℕ
  rates_read = map (rate_in n) (lines text)

  abbrev shares_read : ℕ → ℕ → Share
  shares_read k = share_in n (get_or (lines text) k [])

  rate_read : (k : ℕ) → k < length (lines text) → get_or rates_read k 0 ≡ rate_in n (get_or (lines text) k [])
  rate_read k within = get_or-map (rate_in n) (lines text) k [] 0 within

  as_many_read : length rates_read ≡ length (lines text)
  as_many_read = length-map (lines text) (rate_in n)

  writable_read : Writable n rates_read shares_read
  writable_read =
      record {
        some = omega (arith, as_many_read, (few_lines n text accepted).0);
        few = omega (arith, as_many_read, (few_lines n text accepted).1);
        low = λ k within.
            let l : k < length (lines text) = omega (arith, as_many_read) in
            omega (arith, rate_read k l, (said n text accepted k l).rate);
        numbers = λ k i within less. (said n text accepted k (omega (arith, as_many_read))).numbers i less;
      }

  pub only_written :
      (rates : List ℕ) × (share : ℕ → ℕ → Share) × Writable n rates share × (text ≡ written n rates share)
  only_written = (
    rates_read,
    shares_read,
    writable_read,
    sym (lines_joined [] text)
        ∙ each_joined (λ k rate. line_of n rate (shares_read k)) (rate_in n) 0 (lines text)
        (λ i within.
        (said n text accepted i within).written
        ∙ ap (λ j. line_of n (rate_in n (get_or (lines text) i [])) (shares_read j)) (sym (zero-add i))),
  )
