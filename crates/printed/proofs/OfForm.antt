-- The test of a share is passed by zero, and by the numbers that a table prints, since it asks for the same digits.
use Rattle.std.proofs.Common.{◌≡◌, ◌⊎◌, inl, inr, Bool, true, false, ◌&&◌, ◌||◌, refl, eqb, leb, eqb-true}
use borrow.Author.Tests.{leb-true, le-leb}
use mathlib.Core.Bool.{or-true}
use Rattle.entry.specs.declared.scaling.Share.{Share}
use Rattle.entry.specs.Promises.{Printable}
use Rattle.printed.specs.Places.{of_form}
use Rattle.printed.specs.Promises.{FormPromise}
use Rattle.printed.proofs.Said.{both_hold}

module _ (share : Share) where
  pub is_one :
      of_form share ≡ true →
      ((share.thousandths ≡ 0) × (share.exponent ≡ 0)) ⊎ Printable share.thousandths share.exponent
  is_one holds = by_zero (eqb share.thousandths 0 && eqb share.exponent 0) refl holds
    where
      by_zero :
          (t : Bool) → (eqb share.thousandths 0 && eqb share.exponent 0) ≡ t →
          (t || (leb 1000 share.thousandths && leb share.thousandths 9999 && leb share.exponent 99)) ≡ true →
          ((share.thousandths ≡ 0) × (share.exponent ≡ 0)) ⊎ Printable share.thousandths share.exponent
      by_zero true nothing holds =
          let both = both_hold (eqb share.thousandths 0) (eqb share.exponent 0) nothing in
          inl (eqb-true _ _ both.0, eqb-true _ _ both.1)
      by_zero false some holds =
          let four = leb 1000 share.thousandths && leb share.thousandths 9999 in
          let ends = both_hold four (leb share.exponent 99) holds in
          let digits = both_hold (leb 1000 share.thousandths) (leb share.thousandths 9999) ends.0 in
          inr (record {
            first_digit = leb-true _ _ digits.0;
            four_digits = leb-true _ _ digits.1;
            two_digits = leb-true _ _ ends.1;
          })

  zero_is : share.thousandths ≡ 0 → share.exponent ≡ 0 → of_form share ≡ true
  zero_is d e = rw (d, e) refl

  pub printable_is : Printable share.thousandths share.exponent → of_form share ≡ true
  printable_is number =
      rw (
        le-leb 1000 share.thousandths number.first_digit,
        le-leb share.thousandths 9999 number.four_digits,
        le-leb share.exponent 99 number.two_digits,
      )
      (or-true (eqb share.thousandths 0 && eqb share.exponent 0))

  pub form_promise : FormPromise share
  form_promise = record { is_one = is_one; zero_is = zero_is; printable_is = printable_is }
