-- What a line of the form has: its numbers written again are its bytes, its rate is within the limit, and its numbers
-- are of the form. A line that has more than six places for its rate is none.
use Rattle.std.proofs.Common.{◌≡◌, ℕ, ◌<◌, ◌≤◌, List, length, Bool, true, false, not, ◌&&◌, nat_eq}
use Rattle.std.proofs.Common.{refl, sym, ap, ◌∙◌, arith}
use borrow.Author.Tests.{ltb-false, not-true, not-false}
use Rattle.std.specs.Cmp.Lexicographic.{pointwise, bytes_decides}
use Rattle.numbers.specs.Tests.{some_below}
use Rattle.numbers.proofs.NoneMet.{none_below}
use Rattle.book.specs.Limits.{max_members}
use Rattle.book.specs.Rates.{max_rate, rate_too_high}
use Rattle.text.proofs.Digits.{decimal_below}
use Rattle.entry.specs.declared.scaling.Share.{Share}
use Rattle.printed.specs.Places.{of_form}
use Rattle.printed.proofs.Said.{both_hold}
use Rattle.printed.proofs.ReadBack.{four_at_most}
use Rattle.marking.specs.Lines.{line_of, rate_places, rate_in, share_in}
use Rattle.marking.specs.Form.{line_of_form}
use Rattle.marking.specs.Private.Readable.{Readable}
use Rattle.marking.proofs.LineLengths.{line_length}

pub record OfForm (n : ℕ) (line : List ℕ) : Type 0 where
  pub written : line ≡ line_of n (rate_in n line) (share_in n line)
  pub rate : rate_in n line ≤ max_rate
  pub numbers : (i : ℕ) → i < n → of_form (share_in n line i) ≡ true

pub has_form : (n : ℕ) (line : List ℕ) → line_of_form n line ≡ true → OfForm n line
unfolding line_of_form
has_form n line holds =
    let same = pointwise nat_eq line (line_of n (rate_in n line) (share_in n line)) in
    let low = not (rate_too_high (rate_in n line)) in
    let other = λ (i : ℕ). not (of_form (share_in n line i)) in
    let parts = both_hold (same && low) (not (some_below n other)) holds in
    let first = both_hold same low parts.0 in
    record {
      written = (bytes_decides line (line_of n (rate_in n line) (share_in n line))).0 first.0;
      rate = ltb-false max_rate (rate_in n line) (not-true _ first.1);
      numbers = λ i l. not-false _ (none_below n other (not-true _ parts.1) i l);
    }

pub few_places : (n : ℕ) (line : List ℕ) → OfForm n line → rate_places n line ≤ 6
few_places n line form =
    omega (
      arith,
      ap length form.written,
      line_length n (rate_in n line) (share_in n line),
      decimal_below 5 (rate_in n line) (omega (arith, form.rate)),
    )

pub many_places : (n : ℕ) (line : List ℕ) → 6 < rate_places n line → line_of_form n line ≡ false
many_places n line many = by_form (line_of_form n line) refl
  where
    by_form : (b : Bool) → line_of_form n line ≡ b → line_of_form n line ≡ false
    by_form true e = absurd (omega (arith, few_places n line (has_form n line e)))
    by_form false e = e

-- So its numbers can be read, however the code counts the members.
pub readable :
    (line : List ℕ) {n count : ℕ} → count ≡ n → n ≤ max_members → line_of_form n line ≡ true → Readable count line
readable line {n} same few is = rw same (record { few = few; short = few_places n line (has_form n line is) })

pub low_rate :
    (line : List ℕ) {n rate count : ℕ} → rate ≡ rate_in count line → count ≡ n → line_of_form n line ≡ true →
    rate ≤ max_rate
low_rate line {n} reads same is = rw (reads, same) (has_form n line is).rate

pub four_digits_in :
    (line : List ℕ) (i : ℕ) {n count : ℕ} {share : Share} → share ≡ share_in count line i → count ≡ n →
    line_of_form n line ≡ true → i < count → share.thousandths ≤ 9999
four_digits_in line i {n} reads same is l =
    rw (reads, same) (four_at_most (share_in n line i) ((has_form n line is).numbers i (omega arith)))

pub told_form :
    (line : List ℕ) {n count : ℕ} {found : Bool} (b : Bool) → count ≡ n → found ≡ line_of_form count line →
    found ≡ b → line_of_form n line ≡ b
told_form line b same told is = ap (λ k. line_of_form k line) (sym same) ∙ sym told ∙ is
