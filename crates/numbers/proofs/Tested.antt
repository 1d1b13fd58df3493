-- `any` over the numbers below n, where the closure answers p, answers `some_below n p`.
use Prim.Native.Nat.{ℕ, zero, suc, ◌<◌, ◌≤◌}
use lib.ListN.{length, get_or, take}
use native.Mathlib.Nat.{eq-or-lt_of_le, le_of_suc-le-suc}
use mathlib.Core.Logic.{◌⊎◌, inl, inr}
use mathlib.Core.Path.{◌≡◌, refl, sym, ap, subst, ◌∙◌}
use mathlib.Core.Bool.{Bool, true, false, ◌||◌, or-true}
use mathlib.Core.List.{List}
use native.Mathlib.Numerals.{add-one}
use native.Mathlib.Omega.{arith}
use denote.Param.Members.{Mut}
use denote.Ref.{Bor}
use Rattle.std.specs.declared.slice.Iter.{Iter}
use Rattle.std.specs.Slice.Iter.{iter_rest}
use Rattle.std.specs.Fn.{Called}
use Rattle.std.specs.Iterator.{ChecksAny}
use Rattle.std.specs.Bool.{MatchBool}
use Rattle.std.specs.List.{list_any, range_with_len, HoldsAt, AllWithin}
use Rattle.std.specs.declared.ops.Range.{Range}
use Rattle.std.proofs.Math.Seq.{take-length}
use Rattle.std.proofs.iter.Yields.{nat_range_steps, fronts}
use Rattle.std.proofs.lemmas.Iterator.{YieldsList-from_range, YieldsList-from_slice, cases_from_any}
use Rattle.std.proofs.lemmas.Iterator.Search.{any_from_yields_List}
use Rattle.std.proofs.lemmas.List.Folds.{list_any_more}
use Rattle.std.proofs.lemmas.List.FromFn.{length-range_with_len, get_or-range_with_len}
use Rattle.numbers.specs.Tests.{some_below}

pub passes_at : (p : ℕ → Bool) (n i : ℕ) → i < n → p i ≡ true → some_below n p ≡ true
unfolding some_below
passes_at p zero i less pass = absurd (omega arith)
passes_at p (suc n) i less pass = last_or_before (eq-or-lt_of_le (le_of_suc-le-suc less)) (λ l. passes_at p n i l pass)
  where
    last_or_before : (i ≡ n) ⊎ (i < n) → (i < n → some_below n p ≡ true) → (some_below n p || p n) ≡ true
    last_or_before (inl same) before = rw (← same, pass) (or-true (some_below i p))
    last_or_before (inr l) before = rw (before l) refl

pub none_passes : (p : ℕ → Bool) (n : ℕ) → ((k : ℕ) → k < n → p k ≡ false) → some_below n p ≡ false
unfolding some_below
none_passes p zero fails = refl
none_passes p (suc n) fails =
    rw (none_passes p n (λ k l. fails k (omega arith)), fails n (omega arith)) refl

-- `any` stopped at a number that passes, or met each and found none.
module _ (n : ℕ) (p : ℕ → Bool) where
  abbrev Says : Bool → ℕ → Type 0
  Says b x = x < n → b ≡ p x

  abbrev numbers : List ℕ
  numbers = range_with_len 0 n

  met : (b : Bool) (k : ℕ) → k < n → HoldsAt (Says b) numbers k → p k ≡ b
  met b k l h =
      let here : get_or numbers k 0 ≡ k = omega (arith, get_or-range_with_len 0 n k 0 l) in
      sym (subst (Says b) here (h 0) l)

  found : (r : Bool) →
      MatchBool r ((k : ℕ) × (k < length numbers) × HoldsAt (Says true) numbers k)
      (AllWithin (Says false) numbers 0 (length numbers)) → r ≡ some_below n p
  found true h =
      let l : h.0 < n = omega (arith, h.1, length-range_with_len 0 n) in
      sym (passes_at p n h.0 l (met true h.0 l h.2))
  found false h =
      sym (none_passes p n (λ k l. met false k l (λ d. h k d (omega arith) (omega (arith, length-range_with_len 0 n)))))

pub some_of_any :
    {F : Type 0} {g : Mut F (ℕ × Unit {0}) Bool} {f : F} {s u : Range ℕ} {r : Bool} (n : ℕ) (p : ℕ → Bool) →
    ChecksAny nat_range_steps g s f r u → s.start ≡ 0 → s.end ≡ n →
    ((x : ℕ) (b : Bool) (q : F) → Called g f (x, tt) b q → q ≡ f) →
    ((x : ℕ) (b : Bool) (q : F) → x < n → Called g f (x, tt) b q → b ≡ p x) → r ≡ some_below n p
some_of_any {f = f} {u = u} {r} n p ran from to keeps computes =
    let all = YieldsList-from_range 0 n n (λ i. record { start = from i; end = to i }) (omega arith) in
    found n p r
    (cases_from_any u f r (Says n p true) (Says n p false) ran all (λ x q call l. computes x true q l call)
    (λ x q call. (keeps x false q call, λ l. computes x false q l call)))

-- Of the numbers in a list, each tested at its place.
tested_first : (p : ℕ → Bool) (xs : List ℕ) (n : ℕ) → n ≤ length xs →
    list_any p (take n xs) ≡ some_below n (λ i. p (get_or xs i 0))
unfolding some_below
tested_first p xs zero l = refl
tested_first p xs (suc n) l =
    ap (λ k. list_any p (take k xs)) (sym (add-one n))
    ∙ list_any_more p xs n 0 (omega arith)
    ∙ ap (λ b. b || p (get_or xs n 0)) (tested_first p xs n (omega arith))

pub some_in_places : (p : ℕ → Bool) (xs : List ℕ) → list_any p xs ≡ some_below (length xs) (λ i. p (get_or xs i 0))
some_in_places p xs =
    ap (list_any p) (sym (take-length xs)) ∙ tested_first p xs (length xs) (omega arith)

-- `any` over a list's numbers, where the closure answers p of each.
pub some_of_slice :
    {F : Type 0} {g : Mut F (Bor ℕ × Unit {0}) Bool} {f : F} {s u : Iter ℕ} {r : Bool} (p : ℕ → Bool) (xs : List ℕ) →
    ChecksAny fronts g s f r u → iter_rest s ≡ xs →
    ((x : Bor ℕ) (b : Bool) (q : F) → Called g f (x, tt) b q → (q ≡ f) × (b ≡ p x.now)) →
    r ≡ some_below (length xs) (λ i. p (get_or xs i 0))
some_of_slice {f = f} {u = u} {r} p xs ran whole computes =
    any_from_yields_List p u f r ran (YieldsList-from_slice xs whole) computes ∙ some_in_places p xs
