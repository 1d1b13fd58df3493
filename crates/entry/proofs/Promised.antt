-- What is promised of every entry. At the exponent the share has four digits and one place more gives it five: so its
-- first digit is not 0, and no other number of the form is as near.
use Prim.Native.Nat.{ℕ, zero, suc, ◌+◌, ◌*◌, ◌^◌, ◌≤◌, min}
use native.Mathlib.Omega.{arith}
use mathlib.Core.Path.{◌≡◌, refl, sym, ap, ap₂, ◌∙◌}
use mathlib.Core.List.{List}
use lib.ListN.{length}
use Rattle.rounding.proofs.Between.{Between, nearest_between}
use Rattle.balance.specs.Balance.{G}
use Rattle.entry.specs.Form.{form}
use Rattle.entry.specs.Entry.{thousandths, exponent, entry_of}
use Rattle.entry.specs.Promises.{NearestPrintable, EntryPromise, EntryPromises}
use Rattle.entry.proofs.Places.{power_next, Turn, turn}
use Rattle.entry.proofs.Cases.{of_zero, of_some}
use Rattle.entry.proofs.NearestForm.{nearest_printable, only_nearest}

pub form_nine : (d e : ℕ) → length (form d e) ≡ 9
form_nine d zero = refl
form_nine d (suc e) = refl

pub entry_nine : (x : ℕ) → length (entry_of x) ≡ 9
unfolding entry_of
entry_nine zero = refl
entry_nine (suc n) = form_nine (thousandths (suc n) (exponent (suc n))) (exponent (suc n))

module _ {x e : ℕ} (t : Turn x e) where
  pub share_rounded : Between (x * 10 ^ (e + 3)) G (thousandths x e)
  share_rounded = nearest_between (x * 10 ^ (e + 3)) G (omega arith)

  nearly_five : 19999 * G ≤ 20 * (x * 10 ^ (e + 3))
  nearly_five =
      omega (
        arith,
        t.five,
        (nearest_between (x * 10 ^ (suc e + 3)) G (omega arith)).above,
        ap (λ p. x * p) (power_next e),
      )

  pub turned : NearestPrintable x (thousandths x e) e
  turned =
      nearest_printable x (thousandths x e) e share_rounded nearly_five
      (record {
        first_digit = omega (arith, nearly_five, share_rounded.below);
        four_digits = omega (arith, t.four);
        two_digits = t.within;
      })

pub entry_promises : EntryPromises
entry_promises x whole =
    record {
      nine_characters = entry_nine x;
      of_zero = of_zero x;
      prints = λ some.
          record {
            d = thousandths x (exponent x);
            e = exponent x;
            nearest = turned (turn some whole);
            written = of_some x some;
          };
      only = λ some text printed.
          let is = only_nearest (turned (turn some whole)) printed.nearest in
          printed.written ∙ ap₂ form is.0 is.1 ∙ sym (of_some x some);
    }

-- What a text keeps that is the definition's.
pub kept : (factor : ℕ) {text : List ℕ} → text ≡ entry_of (min factor G) → EntryPromise (min factor G) text
kept factor is = rw is (entry_promises (min factor G) (omega arith))
