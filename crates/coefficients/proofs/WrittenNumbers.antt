-- With a second set written over a book, a member's half-life is the book's and its numbers are the set's. So ground 13
-- is met only where the book's half-lives or the set's numbers meet it.
use Prim.Native.Nat.{ℕ, ◌≤◌, ◌<◌}
use mathlib.Core.Path.{◌≡◌, ap, ap₂, ◌∙◌}
use mathlib.Core.Bool.{false, ◌||◌}
use mathlib.Core.List.{List}
use lib.Dec.{ltb}
use lib.ListN.{length}
use Rattle.numbers.specs.Tests.{outside, some_below}
use Rattle.book.specs.Limits.{max_coefficient}
use Rattle.book.specs.Fields.{members, half_life, coefficient_count}
use Rattle.book.specs.BookGrounds.{longest, coefficient_too_high, member_wrong, member_out_of_range}
use Rattle.numbers.proofs.NoneMet.{neither, none_below}
use Rattle.numbers.proofs.Tested.{none_passes}
use Rattle.coefficients.specs.Sets.{group_at}
use Rattle.numbers.proofs.SomeSame.{some_same}
use Rattle.coefficients.proofs.GroupsOver.{Written}
use Rattle.coefficients.proofs.WrittenFields.{members_kept, half_life_kept, coefficient_written}

module _ {second book w : List ℕ} (written : Written second book (members book) w)
    (enough : group_at (members book) ≤ length second) where
  member_wrong_written :
      (i : ℕ) → i < members book →
      member_wrong w i ≡ (outside 1 (longest i) (half_life book i) || coefficient_too_high second (group_at i))
  member_wrong_written i l =
      ap₂
      (λ half_life high. outside 1 (longest i) (half_life i) || high)
      (half_life_kept written)
      (some_same coefficient_count
      (λ which h. ap (ltb max_coefficient) (coefficient_written written enough i which l h)))

  pub members_pass :
      member_out_of_range book ≡ false →
      ((i : ℕ) → i < members book → coefficient_too_high second (group_at i) ≡ false) → member_out_of_range w ≡ false
  unfolding member_out_of_range
  members_pass passes numbers =
      ap (λ n. some_below n (member_wrong w)) (members_kept written)
      ∙ none_passes (member_wrong w) (members book) (λ i l.
      let half_life = neither (outside 1 (longest i) (half_life book i)) _
      (none_below (members book) (member_wrong book) passes i l) in
      member_wrong_written i l ∙ ap₂ (λ a b. a || b) half_life.0 (numbers i l))
