-- What is written of cases that are found one after the other.
use Rattle.std.specs.Prelude.{◌≡◌, ℕ, zero, suc, List, [], ◌++◌, Option, MatchOption, IfSome}

-- What at most so many turns write: each finds a case, of which a text is written, and one that finds none is the last.
-- A turn changes what it finds cases with, and what it finds them in.
unfoldable pub Answered :
    {F S C : Type 0} → (F → S → Option C → F → S → Type 0) → (C → List ℕ → Type 0) → ℕ → F → S → List ℕ → Type 0
Answered finds answers zero f s text = text ≡ []
Answered {F} {S} {C} finds answers (suc n) f s text =
    (found : Option C) × (f' : F) × (s' : S) × finds f s found f' s'
    × MatchOption found (text ≡ []) (λ case. (first : List ℕ) × (rest : List ℕ) × answers case first
    × Answered finds answers n f' s' rest × (text ≡ first ++ rest))

-- The same where each turn takes the next case from the bytes that are left, as far as they are known.
abbrev pub AnsweredFrom :
    (List ℕ → Option (List ℕ) → Option (List ℕ) → Type 0) → (List ℕ → List ℕ → Type 0) → ℕ → Option (List ℕ) →
    List ℕ → Type 0
AnsweredFrom next answers most known text =
    Answered {F = Unit {0}} (λ _ known found _ left. IfSome known (λ all. next all found left)) answers most
    tt known text
