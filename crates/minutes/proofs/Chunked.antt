-- `any` over the chunks of a list, as over any run of n items:
-- where it answers q k of item k, it answers `some_below` of q.
use Prim.Native.Nat.{ℕ, ◌<◌}
use native.Mathlib.Omega.{arith}
use mathlib.Core.Logic.{inl, inr}
use mathlib.Core.Path.{◌≡◌, sym}
use mathlib.Core.Bool.{Bool, true, false}
use denote.Param.Members.{Mut}
use Rattle.std.specs.Prelude.{Option, None, Some, IfSome, IsSomeAnd, IsTrue, option_map}
use Rattle.std.specs.Fn.{Called}
use Rattle.std.specs.Bool.{MatchBool}
use Rattle.std.specs.Iterator.Runs.{Run, AnyItemGives, AllItemsGive, CallKeepsClosure}
use Rattle.std.proofs.lemmas.Option.{slice_get_cases}
use Rattle.numbers.specs.Tests.{some_below}
use Rattle.numbers.proofs.Tested.{passes_at, none_passes}

module _ {S A F : Type 0} {steps : S → Option A → S → Type 0} {g : Mut F (A × Unit {0}) Bool} {f : F} (p : Run steps)
    (n : ℕ) (q : ℕ → Bool) where
  pub some_of_run :
      CallKeepsClosure g f → (p.whole ≡ true → p.len ≡ n) →
      ((k : ℕ) → IfSome (p.at k) (λ x. (k < n) × ((b : Bool) → Called g f (x, tt) b f → b ≡ q k))) →
      (r : Bool) → MatchBool r (AnyItemGives p g f true) (IsTrue p.whole × AllItemsGive p g f false) →
      r ≡ some_below n q
  some_of_run keeps whole says true met =
      let item = met keeps in
      at_item item.0 (p.at item.0) (says item.0) item.2
    where
      at_item : (k : ℕ) (o : Option A) → IfSome o (λ x. (k < n) × ((b : Bool) → Called g f (x, tt) b f → b ≡ q k)) →
          IsSomeAnd o (λ x. Called g f (x, tt) true f) → true ≡ some_below n q
      at_item k None says h = absurd h
      at_item k (Some x) says h = sym (passes_at q n k says.0 (sym (says.1 true h)))
  some_of_run keeps whole says false met =
      sym
      (none_passes q n (λ k l. sym (
      elim (slice_get_cases p.items k).1 [
        | inl there ↦ at_each k (p.at k) (p.reads k there.0 (omega (arith, whole met.0))) (says k) (met.1 keeps k)
        | inr past ↦ absurd (omega (arith, past.0, p.long, whole met.0))
      ])))
    where
      at_each : (k : ℕ) (o : Option A) {x : A} → option_map (λ y. y) o ≡ Some x →
          IfSome o (λ x. (k < n) × ((b : Bool) → Called g f (x, tt) b f → b ≡ q k)) →
          IfSome o (λ x. Called g f (x, tt) false f) → false ≡ q k
      at_each k None e says h = cc
      at_each k (Some x) e says h = says.1 false h
