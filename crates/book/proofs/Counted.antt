-- Counting one list and then another counts the two joined, and one feed raises its own place alone.
use Prim.Native.Nat.{ℕ, ◌+◌, ◌<◌, min}
use mathlib.Core.Path.{◌≡◌, refl}
use mathlib.Core.Bool.{Bool, true, false, cond}
use mathlib.Core.List.{List, [], ◌∷◌, ◌++◌}
use lib.ListN.{length, get_or, set, replicate, get_or-replicate}
use lib.Seq.{get_or-set_same, get_or-set_other}
use lib.Dec.{eqb}
use borrow.Author.Tests.{eqb-true, eqb-false, eq-eqb, ne_eqb}
use native.Mathlib.Omega.{arith}
use Rattle.book.specs.BookGrounds.{occurrences}
use Rattle.book.specs.Private.Counted.{Counted}

pub occurrences_append : (x : ℕ) (a b : List ℕ) → occurrences x (a ++ b) ≡ occurrences x a + occurrences x b
unfolding occurrences
occurrences_append x [] b = omega arith
occurrences_append x (y ∷ a) b = let ih = occurrences_append x a b in omega arith

pub none : {counts : List ℕ} → Counted counts [] counts
unfolding occurrences
none = record { each = λ x b. omega arith }

-- One more at place j is one more of j alone.
module _ (counts : List ℕ) (x j times : ℕ) (h : j < length counts) (e : times ≡ min (get_or counts j 0 + 1) 2) where
  raised : (b : Bool) → eqb x j ≡ b → min (get_or (set counts j times) x 0) 2 ≡ min (get_or counts x 0 + cond b 1 0) 2
  raised true t =
      let same : x ≡ j = eqb-true x j t in
      rw same (omega (arith, get_or-set_same counts j times 0 h))
  raised false t = omega (arith, get_or-set_other counts j x times 0 (eqb-false x j t))

pub one :
    {counts : List ℕ} {j times : ℕ} →
    j < length counts → times ≡ min (get_or counts j 0 + 1) 2 → Counted counts (j ∷ []) (set counts j times)
unfolding occurrences
one {counts} {j} {times} h e = record { each = λ x b. omega (arith, raised counts x j times h e (eqb x j) refl) }

pub joined :
    {before feeds between more after : List ℕ} →
    Counted before feeds between → Counted between more after → Counted before (feeds ++ more) after
joined {before} {feeds} {between} {more} {after} s t =
    record { each = λ x b. omega (arith, s.each x b, t.each x b, occurrences_append x feeds more) }

-- Of a list that is being counted: the counts so far and the feeds still to come are the whole.
pub record Counting (before whole counts rest : List ℕ) : Type 0 where
  pub each :
      (x : ℕ) → x < 256 →
      min (get_or counts x 0 + occurrences x rest) 2 ≡ min (get_or before x 0 + occurrences x whole) 2

module _ {before whole counts rest : List ℕ} (s : Counting before whole counts rest) where
  pub counting_one :
      {j times : ℕ} {later : List ℕ} →
      rest ≡ j ∷ later → j < length counts → times ≡ min (get_or counts j 0 + 1) 2 →
      Counting before whole (set counts j times) later
  unfolding occurrences
  counting_one {j} {times} {later} r h e =
      record { each = λ x b. omega (arith, raised counts x j times h e (eqb x j) refl, rw r at (s.each x b)) }

  pub counting_all : rest ≡ [] → Counted before whole counts
  unfolding occurrences
  counting_all r = record { each = λ x b. omega (arith, rw r at (s.each x b)) }

-- A number is 1 where it is when cut at 2.
one_when_cut : (a b : ℕ) → min a 2 ≡ min b 2 → (t : Bool) → eqb b 1 ≡ t → eqb a 1 ≡ t
one_when_cut a b h true e = eq-eqb a 1 (omega (arith, eqb-true b 1 e))
one_when_cut a b h false e = ne_eqb a 1 (λ q. eqb-false b 1 e (omega arith))

-- Counted from nothing, a feed has the count 1 where it comes up once.
pub once :
    {feeds counts : List ℕ} →
    Counted (replicate 256 0) feeds counts → (x : ℕ) → x < 256 → eqb (get_or counts x 0) 1 ≡ eqb (occurrences x feeds) 1
once {feeds} {counts} s x b =
    let counted = get_or counts x 0 in
    let times = occurrences x feeds in
    one_when_cut counted times (omega (arith, s.each x b, get_or-replicate {A = ℕ} 256 x 0 0 b)) (eqb times 1) refl
