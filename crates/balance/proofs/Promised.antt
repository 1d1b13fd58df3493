-- Demand 3's promises of the factors: an accepted book means a sound chain, and a sound
-- chain's factors keep them, whatever the rates. A call that answers n has passed its checks,
-- and place i of its list holds member i's reported factor.
use Rattle.refusals.specs.declared.Refusal.{Refusal}
use Prim.Native.Nat.{ℕ, ◌-◌, ◌≤◌, ◌<◌}
use native.Mathlib.Nat.{le_refl}
use native.Mathlib.Omega.{arith}
use mathlib.Core.Path.{◌≡◌, refl, ap, subst, sym, ◌∙◌}
use mathlib.Core.List.{List, ◌++◌}
use Rattle.std.specs.Prelude.{pos, Result, Ok}
use lib.ListN.{length, get_or, drop}
use Rattle.refusals.specs.Grounds.{first_met, Checked, answer_if, answer_number}
use Rattle.book.specs.BookGrounds.{Accepted}
use Rattle.book.specs.Fields.{members, scale_of}
use Rattle.book.specs.Rates.{rates_at}
use Rattle.book.proofs.Rates.{scale_positive, rates_rise}
use Rattle.balance.specs.Chain.{chain_of}
use Rattle.balance.specs.Balance.{G}
use Rattle.balance.specs.Factors.{factor_grounds, factor_at, factors_at, factor_answer, factor_list}
use Rattle.balance.specs.Promises.{FactorPromise, FallPromise, ListPromise, FactorPromises}
use Rattle.balance.proofs.FromBook.AcceptedSound.{accepted_sound}
use Rattle.balance.proofs.AnyChain.Reported.{reported_at}
use Rattle.balance.proofs.AnyChain.SoundFactors.{factor_promise, fall_promise, reported_at_most_g}
use Rattle.balance.specs.Private.Fillable.{CallPasses}
use Rattle.balance.proofs.Call.CallPasses.{call_passes, passing_call}
use Rattle.balance.proofs.Call.CallAnswers.{filled_answer, filled_list, filled_passed, place_holds, factors_length}

module _ (v : ℕ) (book list : List ℕ) {n : ℕ}
    (answered : answer_number (factor_answer v book (length list)) ≡ pos n) where
  abbrev found : Checked
  found = first_met (factor_grounds v book (length list))

  passed : (found ≡ Ok tt) × (members book ≡ n)
  passed = filled_passed found (members book) n answered

  pub filled_call : CallPasses v book (length list)
  filled_call = call_passes v book (length list) passed.0

  pub filled_count : members book ≡ n
  filled_count = passed.1

  pub filled_place : (i : ℕ) → i < n → get_or (factor_list v book list) i 0 ≡ factor_at book v i
  filled_place i l =
      let count = passed.1 in
      let size = factors_length book v filled_call.accepted in
      place_holds (factors_at book v) list passed.0 i (omega arith)
      ∙ reported_at (scale_of book) (chain_of book) (rates_at book v) (members book - 1) i (omega arith)

  within : (i : ℕ) → i < n → i < members book
  within i l = let count = passed.1 in omega arith

-- A call within its limits leaves each member's factor in its place, none above the parent's.
pub accepted_place : (v : ℕ) (book list : List ℕ) → CallPasses v book (length list) → (i : ℕ) → i < members book →
    get_or (factor_list v book list) i 0 ≡ factor_at book v i
accepted_place v book list passes i l =
    filled_place v book list
    (ap (λ result. answer_number (answer_if result (members book))) (passing_call v book (length list) passes)) i l

pub factor_at_most_g : (book : List ℕ) (v i : ℕ) → Accepted book → i < members book → factor_at book v i ≤ G
factor_at_most_g book v i accepted l =
    reported_at_most_g (scale_positive book) (accepted_sound book accepted) (rates_at book v) i i l (le_refl i)

pub list_promise : (v : ℕ) (book list : List ℕ) →
    ListPromise v book (factor_answer v book (length list)) (factor_list v book list)
list_promise v book list n i answered l =
    subst
    (FactorPromise (scale_of book) (chain_of book) (rates_at book v) i)
    (sym (filled_place v book list answered i l))
    (factor_promise (scale_positive book) (accepted_sound book (filled_call v book list answered).accepted) i
    (within v book list answered i l))

-- What a call keeps that answers and leaves the list as defined.
pub kept :
    (v : ℕ) (book list : List ℕ) {answer : Result ℕ Refusal} {now : List ℕ} →
    answer ≡ factor_answer v book (length list) → now ≡ factor_list v book list → ListPromise v book answer now
kept v book list answered left = rw (answered, left) (list_promise v book list)

-- A list filled within the call's limits is the one that the call leaves, and keeps the promise.
module _ {v : ℕ} {book now : List ℕ} (list : List ℕ) (passes : CallPasses v book (length list))
    (filled : now ≡ factors_at book v ++ drop (members book) list) where
  pub filled_as_called : now ≡ factor_list v book list
  filled_as_called =
      filled_list refl (members book) (factors_at book v) list (passing_call v book (length list) passes)
      (factors_length book v passes.accepted) filled

  pub filled_keeps : ListPromise v book (Ok (members book)) now
  filled_keeps =
      kept v book list
      (filled_answer refl (members book) (factors_at book v) list (passing_call v book (length list) passes) refl)
      filled_as_called

pub factor_promises : FactorPromises
factor_promises =
    record {
      of_any_chain = λ scale chain rate i pos sound l. factor_promise pos sound i l;
      of_higher_rates = λ scale chain rate higher i pos sound l rises. fall_promise pos sound rises i l;
      book_sound = accepted_sound;
      at_a_rate =
          λ book v i accepted most within. factor_promise (scale_positive book) (accepted_sound book accepted) i within;
      at_two_rates = λ book v w i accepted rises most within.
          fall_promise (scale_positive book) (accepted_sound book accepted) (λ k. rates_rise book v w k rises) i within;
      of_the_list = list_promise;
      of_two_lists = λ v w book list other n m i rises answered other-answered l.
          let sound = accepted_sound book (filled_call v book list answered).accepted in
          let here = within v book list answered i l in
          let there : i < m = omega (arith, (passed v book list answered).1, (passed w book other other-answered).1) in
          let falls : FallPromise (scale_of book) (chain_of book) (rates_at book v) (rates_at book w) i =
          fall_promise (scale_positive book) sound (λ k. rates_rise book v w k rises) i here
          in
          rw (filled_place v book list answered i l, filled_place w book other other-answered i there)
          falls.reported_falls;
    }
