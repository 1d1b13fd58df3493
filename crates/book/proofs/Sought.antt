-- `any` over feeds along next, where the closure answers p of each, answers whether p holds of one in their list.
use Prim.Native.Nat.{ℕ}
use mathlib.Core.Path.{◌≡◌, refl, ap, ◌∙◌}
use mathlib.Core.Bool.{Bool, ◌||◌}
use mathlib.Core.List.{List, [], ◌∷◌}
use denote.Param.Members.{Mut}
use Rattle.std.specs.Fn.{Called}
use Rattle.std.specs.Iterator.{ChecksAny, YieldsFirst}
use Rattle.std.specs.List.{list_any}
use Rattle.std.proofs.lemmas.Iterator.Consumers.{YieldsList-from_first}
use Rattle.std.proofs.lemmas.Iterator.Search.{any_from_yields_List}
use Rattle.numbers.specs.Tests.{some_in}
use Rattle.book.specs.Private.Feeds.{feeds_left}
use Rattle.book.specs.declared.feeds.Feeds.{Feeds}

listed : (p : ℕ → Bool) (xs : List ℕ) → list_any p xs ≡ some_in xs p
unfolding some_in
listed p [] = refl
listed p (x ∷ xs) = ap (λ b. p x || b) (listed p xs)

pub some_of_feeds :
    {F : Type 0} {g : Mut F (ℕ × Unit {0}) Bool} {f : F} {s : Feeds} {r : Bool} (u : Feeds)
    (p : ℕ → Bool) (xs : List ℕ) → ChecksAny (YieldsFirst feeds_left) g s f r u → feeds_left s ≡ xs →
    ((x : ℕ) (b : Bool) (q : F) → Called g f (x, tt) b q → (q ≡ f) × (b ≡ p x)) → r ≡ some_in xs p
some_of_feeds {f = f} {r = r} u p xs ran whole computes =
    any_from_yields_List p u f r ran (YieldsList-from_first (λ x. x) feeds_left xs whole) computes ∙ listed p xs
