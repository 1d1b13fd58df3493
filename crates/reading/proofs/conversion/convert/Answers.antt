-- A NaN is unusable, and any other float is read back from its own pattern.
use mathlib.Core.Path.{◌≡◌, refl, sym, subst, ◌∙◌}
use mathlib.Core.Bool.{true}
use lib.Dec.{T}
use lib.Ieee.{Float, nan, inf, fin, is_nan, fits, to_bits, of_bits, binary64}
use lib.Ieee.Bits.{of_bits-to_bits}
use Rattle.std.specs.Prelude.{ℕ, Result, Err}
use Rattle.reading.specs.declared.error.ReadingError.{ReadingError}
use Rattle.reading.specs.Private.Conversion.{converted_answer}
use Rattle.reading.proofs.conversion.convert.Goals as goal

nan_refused : (x : Float) (m : ℕ) → is_nan x ≡ true → Err ReadingError.Unusable ≡ converted_answer x m
unfolding is_nan
nan_refused nan m e = refl
nan_refused (inf s) m e = refl
nan_refused (fin s d k) m e = cc

read_back : (x : Float) (m : ℕ) {r : Result ℕ ReadingError} → fits binary64 x ≡ true
    → r ≡ converted_answer (of_bits binary64 (to_bits binary64 x)) m → r ≡ converted_answer x m
read_back x m h e = rw (of_bits-to_bits binary64 x (subst T (sym h) tt)) at e

pub returns-then-is_nan : goal.returns-then-is_nan
returns-then-is_nan c = nan_refused _ _ (sym c.is_nan.ensures.value ∙ c.if-is_nan.true)

pub returns : goal.returns
returns c = read_back _ _ c.well_formed.0.1 c.convert_bits.ensures
