-- What turns write, one after the other.
use Rattle.std.proofs.Common.{◌≡◌, refl, sym, subst, ℕ, zero, suc, ◌+◌, ◌-◌, ◌<◌, ◌≤◌, List}
use Rattle.std.proofs.Common.{[], ◌++◌, Option, Some, None, append_assoc, append-nil, arith}
use Rattle.std.specs.Option.{option_map, IfSome}
use Rattle.std.specs.Prelude.{Result, OnOk}
use Rattle.std.proofs.lemmas.Result.{on_ok_weaker}
use Rattle.records.specs.Answered.{Answered, AnsweredFrom}

module _ {F S C : Type 0} (finds : F → S → Option C → F → S → Type 0) (answers : C → List ℕ → Type 0) where
  no_turn : (f : F) (s : S) → Answered finds answers 0 f s []
  unfolding Answered
  no_turn f s = refl

  last_turn : (n : ℕ) (f g : F) (s t : S) → finds f s None g t → Answered finds answers (suc n) f s []
  unfolding Answered
  last_turn n f g s t none = (None, g, t, none, refl)

  next_turn :
      (n : ℕ) (f g : F) (s t : S) (case : C) (first rest : List ℕ) → finds f s (Some case) g t → answers case first →
      Answered finds answers n g t rest → Answered finds answers (suc n) f s (first ++ rest)
  unfolding Answered
  next_turn n f g s t case first rest found answered after =
      (Some case, g, t, found, (first, rest, answered, after, refl))

  -- What is written so far, and then what the turns that are left write, is the whole.
  abbrev pub Ahead : (most : ℕ) (f0 : F) (s0 : S) (left : ℕ) (f : F) (s : S) (text : List ℕ) → Type 0
  Ahead most f0 s0 left f s text =
      (rest : List ℕ) → Answered finds answers left f s rest → Answered finds answers most f0 s0 (text ++ rest)

  pub begun : (most : ℕ) (f : F) (s : S) → Ahead most f s (most - 0) f s []
  begun most f s rest after =
      let left : most - 0 ≡ most = omega arith in
      subst (λ n. Answered finds answers n f s rest) left after

  pub turned :
      (most turn : ℕ) (f0 f g : F) (s0 s t : S) (case : C) (text first : List ℕ) →
      turn < most → finds f s (Some case) g t → answers case first → Ahead most f0 s0 (most - turn) f s text →
      Ahead most f0 s0 (most - (turn + 1)) g t (text ++ first)
  turned most turn f0 f g s0 s t case text first l found answered ahead rest after =
      let left : suc (most - (turn + 1)) ≡ most - turn = omega (arith, l) in
      let here : Answered finds answers (most - turn) f s (first ++ rest) =
      subst (λ n. Answered finds answers n f s (first ++ rest)) left
      (next_turn (most - (turn + 1)) f g s t case first rest found answered after) in
      subst (Answered finds answers most f0 s0) (sym (append_assoc text first rest)) (ahead (first ++ rest) here)

  pub ended :
      (most turn : ℕ) (f0 f g : F) (s0 s t : S) (text : List ℕ) → turn < most → finds f s None g t →
      Ahead most f0 s0 (most - turn) f s text → Answered finds answers most f0 s0 text
  ended most turn f0 f g s0 s t text l none ahead =
      let left : suc (most - (turn + 1)) ≡ most - turn = omega (arith, l) in
      let here : Answered finds answers (most - turn) f s [] =
      subst (λ n. Answered finds answers n f s []) left (last_turn (most - (turn + 1)) f g s t none) in
      subst (Answered finds answers most f0 s0) (append-nil text) (ahead [] here)

  pub all_turned :
      (most turn : ℕ) (f0 f : F) (s0 s : S) (text : List ℕ) → most ≤ turn →
      Ahead most f0 s0 (most - turn) f s text → Answered finds answers most f0 s0 text
  all_turned most turn f0 f s0 s text l ahead =
      let left : 0 ≡ most - turn = omega (arith, l) in
      let here : Answered finds answers (most - turn) f s [] =
      subst (λ n. Answered finds answers n f s []) left (no_turn f s) in
      subst (Answered finds answers most f0 s0) (append-nil text) (ahead [] here)

-- The same turns, with what is known of the input in place of the input, and lists in place of what holds them.
module _ {F S C : Type 0} (finds : F → S → Option C → F → S → Type 0)
    (answers : C → List ℕ → Type 0) (f : F) (items : C → List ℕ) (known : S → Option (List ℕ))
    (next : List ℕ → Option (List ℕ) → Option (List ℕ) → Type 0) (answers' : List ℕ → List ℕ → Type 0)
    (same : (s : S) (found : Option C) (g : F) (t : S) → finds f s found g t → g ≡ f) (step : (s : S) (found : Option C)
    (g : F) (t : S) → finds f s found g t → IfSome (known s) (λ all. next all (option_map items found) (known t)))
    (told : (case : C) (text : List ℕ) → answers case text → answers' (items case) text) where
  viewed : (n : ℕ) (s : S) (text : List ℕ) → Answered finds answers n f s text →
      AnsweredFrom next answers' n (known s) text
  unfolding Answered
  viewed zero s text none = none
  viewed (suc n) s text (None, g, t, found, none) = (None, tt, known t, step s None g t found, none)
  viewed (suc n) s text (Some case, g, t, found, (first, rest, answered, after, e)) =
      let on : Answered finds answers n f t rest =
      subst (λ h. Answered finds answers n h t rest) (same s (Some case) g t found) after in (
        Some (items case),
        tt,
        known t,
        step s (Some case) g t found,
        (first, rest, told case first answered, viewed n t rest on, e),
      )

  pub viewed_all :
      {T E : Type 0} (r : Result T E) (n : ℕ) (s : S) (A : List ℕ → Type 0) →
      OnOk r ((text : List ℕ) × Answered finds answers n f s text × A text) →
      OnOk r ((text : List ℕ) × AnsweredFrom next answers' n (known s) text × A text)
  viewed_all r n s A written =
      on_ok_weaker {P = (text : List ℕ) × Answered finds answers n f s text × A text}
      {Q = (text : List ℕ) × AnsweredFrom next answers' n (known s) text × A text}
      r (λ w. (w.0, viewed n s w.0 w.1, w.2)) written
