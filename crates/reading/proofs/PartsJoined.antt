-- The intake's answer from the conversions of the two parts. Both sides are decided by the same tests in the same
-- order: an unusable part, a part or a sum that is too large, and then the concentration itself.
use Prim.Native.Nat.{ℕ, ◌+◌, ◌≤◌}
use mathlib.Core.Path.{◌≡◌, refl, sym}
use mathlib.Core.Bool.{Bool, true, false, cond, ◌||◌}
use borrow.Author.Tests.{ltb-false}
use lib.Dec.{ltb}
use Rattle.std.specs.Prelude.{Result, Ok, Err, IfOk}
use Rattle.refusals.proofs.FirstMet.{neither}
use Rattle.reading.specs.declared.amounts.Medium.{Medium}
use Rattle.reading.specs.declared.amounts.Reading.{Reading}
use Rattle.reading.specs.declared.amounts.Unit.{Unit}
use Rattle.reading.specs.declared.amounts.Amount.{Amount}
use Rattle.reading.specs.declared.error.ReadingError.{ReadingError}
use Rattle.reading.specs.Reading.{figure, amount_in, unusable, whole, whole_answer, max_concentration, through_medium}
use Rattle.reading.specs.Reading.{total, concentration, reading_unusable, concentration_too_high, intake_answer}
use Rattle.reading.specs.Private.Conversion.{capped}
use Rattle.reading.specs.Private.Parts.{sum_of, intake_of_sum}
use Rattle.reading.proofs.ThreeCodes.{figure_in_unit}

-- The answer for one part, by its two tests: the figure is unusable, the number n is too large.
abbrev pub tested : Bool → Bool → ℕ → Result ℕ ReadingError
tested u l n = cond u (Err ReadingError.Unusable) (cond l (Err ReadingError.TooLarge) (Ok n))

-- The sum's own test b and the concentration's t.
sum_tested : (medium : Medium) (af n : ℕ) (b : Bool)
    → cond (b || ltb max_concentration (through_medium medium af n)) (Err ReadingError.TooLarge)
    (Ok (through_medium medium af n))
    ≡ intake_of_sum medium af (cond b (Err ReadingError.TooLarge) (Ok n))
sum_tested medium af n true = refl
sum_tested medium af n false = refl

joined : (medium : Medium) (af m n : ℕ) (u v k l : Bool)
    → cond (u || v) (Err ReadingError.Unusable)
    (cond (k || l || ltb max_concentration (m + n) || ltb max_concentration (through_medium medium af (m + n)))
    (Err ReadingError.TooLarge)
    (Ok (through_medium medium af (m + n))))
    ≡ intake_of_sum medium af (sum_of (tested u k m) (tested v l n))
joined medium af m n true v k l = refl
joined medium af m n false true true l = refl
joined medium af m n false true false l = refl
joined medium af m n false false true true = refl
joined medium af m n false false true false = refl
joined medium af m n false false false true = refl
joined medium af m n false false false false = sum_tested medium af (m + n) (ltb max_concentration (m + n))

pub intake_joined : (unit : Unit) (medium : Medium) (af : ℕ) (reading : Reading)
    → intake_answer unit medium af reading
    ≡ intake_of_sum medium af
    (sum_of (whole_answer (amount_in unit reading.value)) (whole_answer (amount_in unit reading.uncertainty)))
unfolding reading_unusable concentration_too_high
intake_joined unit medium af reading =
    let v = reading.value in
    let w = reading.uncertainty in
    let m = whole (amount_in unit v) in
    let n = whole (amount_in unit w) in
    rw (figure_in_unit unit v, figure_in_unit unit w)
    (joined medium af m n (unusable v) (unusable w) (ltb max_concentration m) (ltb max_concentration n))

-- From the two conversions and their sum, as the code goes.
pub taken :
    (unit : Unit) (medium : Medium) (af : ℕ) (reading : Reading) {value uncertainty total : Result ℕ ReadingError}
    → value ≡ whole_answer (amount_in unit reading.value)
    → uncertainty ≡ whole_answer (amount_in unit reading.uncertainty)
    → total ≡ sum_of value uncertainty
    → intake_of_sum medium af total ≡ intake_answer unit medium af reading
taken unit medium af reading v u t = rw (t, v, u) (sym (intake_joined unit medium af reading))

-- What is answered is within the limit.
abbrev pub Within : Result ℕ ReadingError → Type 0
Within answer = IfOk answer (λ n. n ≤ max_concentration)

pub capped_within : (n : ℕ) → Within (capped n)
capped_within n = go (ltb max_concentration n) refl
  where
    go : (b : Bool) → ltb max_concentration n ≡ b → Within (cond b (Err ReadingError.TooLarge) (Ok n))
    go true e = tt
    go false e = ltb-false max_concentration n e

pub sum_within : (value uncertainty : Result ℕ ReadingError) → Within (sum_of value uncertainty)
sum_within (Err ReadingError.Unusable) b = tt
sum_within (Err ReadingError.TooLarge) (Err error) = tt
sum_within (Err ReadingError.TooLarge) (Ok n) = tt
sum_within (Ok m) (Err error) = tt
sum_within (Ok m) (Ok n) = capped_within (m + n)

part_within : (u : Bool) (n : ℕ) → Within (cond u (Err ReadingError.Unusable) (capped n))
part_within true n = tt
part_within false n = capped_within n

pub whole_within : (amount : Amount) → Within (whole_answer amount)
whole_within amount = part_within (unusable (figure amount)) (whole amount)

-- Where ground 8 is not met, C is within its limit.
pub concentration_within :
    (unit : Unit) (medium : Medium) (af : ℕ) (reading : Reading)
    → concentration_too_high unit medium af reading ≡ false
    → concentration unit medium af reading ≤ max_concentration
unfolding concentration_too_high
concentration_within unit medium af reading e =
    let parts =
    ltb max_concentration (whole (amount_in unit reading.value))
    || ltb max_concentration (whole (amount_in unit reading.uncertainty))
    || ltb max_concentration (total unit reading)
    in
    let c = concentration unit medium af reading in
    ltb-false max_concentration c (neither parts (ltb max_concentration c) e).1
