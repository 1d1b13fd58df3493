-- The texts of the items from a place on: the text of the item there, and that of those past it.
use Rattle.std.proofs.Common.{◌≡◌, refl, ap, ◌∙◌, ℕ, suc, ◌-◌, ◌≤◌, ◌<◌, List, [], ◌∷◌, ◌++◌}
use Rattle.std.proofs.Common.{length, drop, get_or, drop-cons, arith}
use Rattle.std.proofs.lemmas.List.{drop_all}
use Rattle.text.specs.Words.{each}

-- An item's text does not tell at which place it stands.
module _ (piece : ℕ → List ℕ) where
  any_place : (j k : ℕ) (items : List ℕ) → each (λ place. piece) j items ≡ each (λ place. piece) k items
  any_place j k [] = refl
  any_place j k (item ∷ items) = ap (λ rest. piece item ++ rest) (any_place (suc j) (suc k) items)

  abbrev pub texts_from : List ℕ → ℕ → List ℕ
  texts_from items i = each (λ place. piece) 0 (drop i items)

  pub one_more : (items : List ℕ) (i : ℕ) → 0 < i → i ≤ length items →
      texts_from items (i - 1) ≡ piece (get_or items (i - 1) 0) ++ texts_from items i
  one_more items i some within =
      let turn : suc (i - 1) ≡ i = omega arith in
      let before : drop (i - 1) items ≡ get_or items (i - 1) 0 ∷ drop i items =
      rw turn at (drop-cons items (i - 1) 0 (omega arith)) in
      ap (each (λ place. piece) 0) before
      ∙ ap (λ rest. piece (get_or items (i - 1) 0) ++ rest) (any_place 1 0 (drop i items))

  pub none_left : (items : List ℕ) → texts_from items (length items) ≡ []
  none_left items = ap (each (λ place. piece) 0) (drop_all (length items) items (omega arith))
