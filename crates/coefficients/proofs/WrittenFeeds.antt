-- A book's feeds read no coefficient, since feeds count from 1: a member's are the same with a second set written over
-- the book, and so is what flows out of it.
use Prim.Native.Nat.{ℕ, zero, suc, ◌+◌}
use mathlib.Core.Path.{◌≡◌, refl, ap, ap₂, fun_ext, ◌∙◌}
use mathlib.Core.Bool.{cond}
use mathlib.Core.List.{List, ◌∷◌, ◌++◌, map}
use lib.Dec.{eqb}
use Rattle.numbers.specs.Sums.{sum_below}
use Rattle.book.specs.Fields.{members, feed_count, first_feed, next, along, feeds_of}
use Rattle.book.specs.Held.{feed_of}
use Rattle.book.specs.BookGrounds.{walk, shares_out_of}
use Rattle.coefficients.proofs.GroupsOver.{Written}
use Rattle.coefficients.proofs.WrittenFields.{feed_count_kept, first_feed_kept, share_kept, from_kept, next_kept}

-- Where two functions agree on every feed's number, they do along a chain of feeds.
module _ {A : Type 0} (f g : ℕ → A) (same : (j : ℕ) → f (suc j) ≡ g (suc j)) (following : ℕ → ℕ) where
  map_along : (most j : ℕ) → map f (along following most j) ≡ map g (along following most j)
  unfolding along
  map_along zero j = refl
  map_along (suc most) zero = refl
  map_along (suc most) (suc j) = ap₂ (λ x xs. x ∷ xs) (same j) (map_along most (following (suc j)))

module _ {second book w : List ℕ} (written : Written second book (members book) w) where
  feed_kept : (j : ℕ) → feed_of w (suc j) ≡ feed_of book (suc j)
  feed_kept j =
      ap₂ (λ share from. record { share = share; from = from (suc j) }) (share_kept written j) (from_kept written)

  pub feeds_of_kept : feeds_of w ≡ feeds_of book
  feeds_of_kept =
      ap₂
      (λ count first i. along (next w) (count + 1) (first i))
      (feed_count_kept written)
      (first_feed_kept written)
      ∙ ap (λ next i. along next (feed_count book + 1) (first_feed book i)) (next_kept written)

  pub feeds_kept : (i : ℕ) → map (feed_of w) (feeds_of w i) ≡ map (feed_of book) (feeds_of book i)
  feeds_kept i =
      map_along (feed_of w) (feed_of book) feed_kept (next w) (feed_count w + 1) (first_feed w i)
      ∙ ap (λ feeds. map (feed_of book) (feeds i)) feeds_of_kept

  pub walk_kept : (n : ℕ) → walk w n ≡ walk book n
  unfolding walk
  walk_kept zero = refl
  walk_kept (suc n) = ap₂ (λ before feeds. before ++ feeds n) (walk_kept n) feeds_of_kept

  pub shares_out_kept : shares_out_of w ≡ shares_out_of book
  shares_out_kept =
      let share_out = λ (i j : ℕ).
      ap₂ (λ from share. cond (eqb (from (suc j)) i) share 0) (from_kept written) (share_kept written j)
      in
      fun_ext (λ i. ap₂ sum_below (feed_count_kept written) (fun_ext (share_out i)))
