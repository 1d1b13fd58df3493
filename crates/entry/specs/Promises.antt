-- What is promised of the entry of every factor from 0 to G: it prints the nearest number of the form, a half goes up,
-- and nothing else fits.
use Rattle.std.specs.Prelude.{ℕ, ◌+◌, ◌-◌, ◌*◌, ◌^◌, ◌≤◌, ◌<◌, ◌≡◌, List, length}
use Rattle.balance.specs.Balance.{G}
use Rattle.text.specs.Words.{ascii}
use Rattle.entry.specs.Form.{form}
use Rattle.entry.specs.Entry.{entry_of}

-- A number of the form is d / 10^(e + 3) with a first digit of 1 to 9 and an exponent of two digits.
pub record Printable (d e : ℕ) : Type 0 where
  pub first_digit : 1000 ≤ d
  pub four_digits : d ≤ 9999
  pub two_digits : e ≤ 99

-- The difference of two numbers, whichever is larger.
unfoldable pub apart : ℕ → ℕ → ℕ
apart a b = (a - b) + (b - a)

-- How far it is from x / G, as a numerator over G × 10^(e + 3).
abbrev pub distance : ℕ → ℕ → ℕ → ℕ
distance x d e = apart (x * 10 ^ (e + 3)) (d * G)

-- Of the numbers of the form none is nearer to x / G, and none that is as near is larger. Each comparison is multiplied
-- out.
pub record NearestPrintable (x d e : ℕ) : Type 0 where
  pub printable : Printable d e
  pub none_nearer : (d' e' : ℕ) → Printable d' e' → 10 ^ (e' + 3) * distance x d e ≤ 10 ^ (e + 3) * distance x d' e'
  pub half_up :
      (d' e' : ℕ) → Printable d' e' → 10 ^ (e' + 3) * distance x d e ≡ 10 ^ (e + 3) * distance x d' e' →
      10 ^ (e + 3) * d' ≤ 10 ^ (e' + 3) * d

-- A text prints x / G where it is the form of that number.
pub record Prints (x : ℕ) (text : List ℕ) : Type 0 where
  pub d : ℕ
  pub e : ℕ
  pub nearest : NearestPrintable x d e
  pub written : text ≡ form d e

-- Of a text that is given as x's entry.
pub record EntryPromise (x : ℕ) (text : List ℕ) : Type 0 where
  pub nine_characters : length text ≡ 9
  pub of_zero : x ≡ 0 → text ≡ ascii "0.000E+00"
  pub prints : 0 < x → Prints x text
  pub only : 0 < x → (other : List ℕ) → Prints x other → other ≡ text

-- One statement covers every factor from 0 to G.
abbrev pub EntryPromises : Type 0
EntryPromises = (x : ℕ) → x ≤ G → EntryPromise x (entry_of x)
