-- What it is for a number to be of the form, and what a mark says of every point of the interval, fractions of a grain
-- included, and of the exact factor.
use Rattle.std.specs.Prelude.{ℕ, ◌*◌, ◌≤◌, ◌<◌, ◌≡◌, ◌⊎◌, true, false}
use Rattle.balance.specs.Chain.{Chain}
use Rattle.balance.specs.Balance.{G, raised}
use Rattle.balance.specs.Exact.{numerator, denominator}
use Rattle.balance.specs.Promises.{FactorPromise}
use Rattle.entry.specs.declared.scaling.Share.{Share}
use Rattle.entry.specs.Promises.{Printable}
use Rattle.printed.specs.Places.{of_form}
use Rattle.printed.specs.Mark.{within, mark_of}
use Rattle.printed.specs.declared.mark.Mark.{Mark}
use Rattle.printed.specs.declared.mark.Mark.TheVariants.{Right, Close, Wrong}

-- The point of p / q grains lies in the interval from low to high grains.
pub record Point (low high p q : ℕ) : Type 0 where
  pub fraction : 0 < q
  pub from_low : low * q ≤ p
  pub to_high : p ≤ high * q

-- Of a mark that is given to a printed number for the interval.
pub record MarkPromise (share : Share) (low high : ℕ) (given : Mark) : Type 0 where
  -- 'right': the whole interval is within half a unit
  pub right : given ≡ Right → (p q : ℕ) → Point low high p q → within share p q ≡ true
  -- 'wrong': no point of it is
  pub wrong : given ≡ Wrong → (p q : ℕ) → Point low high p q → within share p q ≡ false
  -- 'close': some point is, and some other is not
  pub close : given ≡ Close → (p : ℕ) × (q : ℕ) × Point low high p q × (within share p q ≡ true)
  pub not_all : given ≡ Close → (p : ℕ) × (q : ℕ) × Point low high p q × (within share p q ≡ false)

-- Of a mark that is given for the interval of member i: from its reported factor to 2i grains above it, at most G. A
-- right number is within half a unit of the exact factor, numerator / denominator of G, and a wrong one is not.
pub record ExactPromise (share : Share) (scale : ℕ) (chain : Chain) (rate : ℕ → ℕ) (i : ℕ) (given : Mark) : Type 0 where
  pub right :
      given ≡ Right → within share (numerator scale chain rate i * G) (denominator scale chain rate i) ≡ true
  pub wrong :
      given ≡ Wrong → within share (numerator scale chain rate i * G) (denominator scale chain rate i) ≡ false

-- A share is of the form where it is zero, or a number that a table prints.
pub record FormPromise (share : Share) : Type 0 where
  pub is_one :
      of_form share ≡ true →
      ((share.thousandths ≡ 0) × (share.exponent ≡ 0)) ⊎ Printable share.thousandths share.exponent
  pub zero_is : share.thousandths ≡ 0 → share.exponent ≡ 0 → of_form share ≡ true
  pub printable_is : Printable share.thousandths share.exponent → of_form share ≡ true

pub record MarkPromises : Type 0 where
  pub of_the_form : (share : Share) → FormPromise share
  pub of_any_interval :
      (share : Share) (low high : ℕ) → low ≤ high → MarkPromise share low high (mark_of share low high)
  pub of_the_exact :
      (share : Share) (scale : ℕ) (chain : Chain) (rate : ℕ → ℕ) (i factor : ℕ) → 0 < scale →
      FactorPromise scale chain rate i factor →
      ExactPromise share scale chain rate i (mark_of share factor (raised i factor))
