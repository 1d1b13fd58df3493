-- A line that is written is read back. Its rate's digits come first and its other bytes are counted, so its rate has
-- the places that are left; and a member's number stands after those of the members before it.
use Rattle.std.proofs.Common.{◌≡◌, ℕ, zero, suc, ◌+◌, ◌*◌, ◌<◌, ◌≤◌, ◌⊎◌, inl, inr, true, false, not}
use Rattle.std.proofs.Common.{List, [], ◌++◌, length, refl, sym, ap, ap₂, ◌∙◌, append_assoc, append-nil, arith}
use Rattle.std.proofs.Common.{length-append, le-ltb, nat_eq, le_of_suc-le-suc}
use Rattle.std.specs.Cmp.Lexicographic.{pointwise, bytes_decides}
use native.Mathlib.Nat.{eq-or-lt_of_le}
use Rattle.numbers.proofs.Tested.{none_passes}
use Rattle.text.specs.Words.{ascii, decimal, line_feed}
use Rattle.book.specs.Rates.{max_rate}
use Rattle.entry.specs.declared.scaling.Share.{Share}
use Rattle.entry.specs.Form.{form}
use Rattle.printed.specs.Places.{number_at, share_at, of_form}
use Rattle.printed.proofs.ReadBack.{number_back, share_back}
use Rattle.marking.specs.Lines.{spaced_shares, line_of, rate_places, rate_in, share_in}
use Rattle.marking.specs.Form.{line_of_form}
use Rattle.marking.proofs.LineLengths.{shares_length, line_length}

abbrev number : (ℕ → Share) → ℕ → List ℕ
number share i = form (share i).thousandths (share i).exponent

-- Member i's number follows those before it and a space.
record Stands (share : ℕ → Share) (i : ℕ) (numbers : List ℕ) : Type 0 where
  rest : List ℕ
  is : numbers ≡ spaced_shares share i ++ ascii " " ++ number share i ++ rest

stands : (share : ℕ → Share) (n i : ℕ) → i < n → Stands share i (spaced_shares share n)
unfolding spaced_shares
stands share zero i less = absurd (omega arith)
stands share (suc n) i less = last_or_before (eq-or-lt_of_le (le_of_suc-le-suc less)) (stands share n i)
  where
    last_or_before :
        (i ≡ n) ⊎ (i < n) → (i < n → Stands share i (spaced_shares share n)) →
        Stands share i (spaced_shares share (suc n))
    last_or_before (inl same) before =
        record { rest = []; is = rw (same, append-nil) refl }
    last_or_before (inr l) before =
        let earlier = before l in
        let more = ascii " " ++ number share n in
        record {
          rest = earlier.rest ++ more;
          is = append_assoc (spaced_shares share n) (ascii " ") (number share n)
              ∙ ap (λ front. front ++ more) earlier.is
              ∙ append_assoc (spaced_shares share i ++ ascii " " ++ number share i) earlier.rest more;
        }

regroup : (a b c d e f : List ℕ) → a ++ (b ++ c ++ d ++ e) ++ f ≡ (a ++ b ++ c) ++ d ++ (e ++ f)
regroup a b c d e f = simp append_assoc

same_shares :
    (n : ℕ) (f g : ℕ → Share) → ((i : ℕ) → i < n → f i ≡ g i) → spaced_shares f n ≡ spaced_shares g n
unfolding spaced_shares
same_shares zero f g alike = refl
same_shares (suc n) f g alike =
    ap₂ (λ front (s : Share). front ++ ascii " " ++ form s.thousandths s.exponent)
    (same_shares n f g (λ i l. alike i (omega arith))) (alike n (omega arith))

module _ (n rate : ℕ) (share : ℕ → Share) where
  pub places : rate_places n (line_of n rate share) ≡ length (decimal rate)
  places = omega (arith, line_length n rate share)

  pub rate_back : rate ≤ max_rate → rate_in n (line_of n rate share) ≡ rate
  rate_back low =
      ap (number_at (line_of n rate share) 0) places
      ∙ ap (λ l. number_at l 0 (length (decimal rate))) (append_assoc (decimal rate) (spaced_shares share n) line_feed)
      ∙ number_back [] (spaced_shares share n ++ line_feed) rate (omega arith)

  pub member_back : (i : ℕ) → i < n → of_form (share i) ≡ true → share_in n (line_of n rate share) i ≡ share i
  member_back i less holds =
      let split = stands share n i less in
      let front = decimal rate ++ spaced_shares share i ++ ascii " " in
      let whole : line_of n rate share ≡ front ++ number share i ++ (split.rest ++ line_feed) =
      ap (λ s. decimal rate ++ s ++ line_feed) split.is
      ∙ regroup (decimal rate) (spaced_shares share i) (ascii " ") (number share i) split.rest line_feed
      in
      let at : rate_places n (line_of n rate share) + i * (1 + 9) + 1 ≡ length front =
      rw (
        length-append (decimal rate ++ spaced_shares share i) (ascii " "),
        length-append (decimal rate) (spaced_shares share i),
      ) (omega (arith, places, shares_length share i))
      in
      ap (share_at (line_of n rate share)) at ∙ ap (λ l. share_at l (length front)) whole
      ∙ share_back front (split.rest ++ line_feed) (share i) holds

  module _ (low : rate ≤ max_rate) (all : (i : ℕ) → i < n → of_form (share i) ≡ true) where
    pub of_form_written : line_of_form n (line_of n rate share) ≡ true
    unfolding line_of_form
    of_form_written =
        rw (same, rate_back low, le-ltb max_rate rate low, none_passes _ n passed) refl
      where
        same : pointwise nat_eq (line_of n rate share)
            (line_of n (rate_in n (line_of n rate share)) (share_in n (line_of n rate share)))
            ≡ true
        same =
            (bytes_decides (line_of n rate share)
            (line_of n (rate_in n (line_of n rate share)) (share_in n (line_of n rate share)))).1
            (ap₂ (λ v s. decimal v ++ s ++ line_feed) (sym (rate_back low))
            (same_shares n share (share_in n (line_of n rate share)) (λ i l. sym (member_back i l (all i l)))))

        passed : (i : ℕ) → i < n → not (of_form (share_in n (line_of n rate share) i)) ≡ false
        passed i l = ap (λ s. not (of_form s)) (member_back i l (all i l)) ∙ ap not (all i l)
