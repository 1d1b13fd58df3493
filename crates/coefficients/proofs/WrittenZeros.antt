-- No zero byte of a book is one of a coefficient: with a second set written over the book, ground 12 is met only where
-- it was.
use Prim.Native.Nat.{ℕ, suc, ◌+◌}
use native.Mathlib.Omega.{arith}
use mathlib.Core.Path.{◌≡◌, ap, ap₂, fun_ext, ◌∙◌}
use mathlib.Core.Bool.{not}
use mathlib.Core.List.{List}
use lib.Dec.{eqb}
use Rattle.numbers.specs.Tests.{some_below}
use Rattle.book.specs.Fields.{members, header_zeros, header_zero_count, member_zeros, member_zero_count}
use Rattle.book.specs.Fields.{feed_zeros, feed_zero_count}
use Rattle.book.specs.BookGrounds.{divisor_or_zeros_wrong, not_zero}
use Rattle.numbers.proofs.SomeSame.{some_same}
use Rattle.coefficients.proofs.GroupsOver.{Written, InNoGroup}
use Rattle.coefficients.proofs.WrittenFields.{members_kept, feed_count_kept, divisor_kept, feed_at_kept}

module _ {second book w : List ℕ} (written : Written second book (members book) w) where
  zero_kept : (k : ℕ) → InNoGroup (members book) k → not_zero w k ≡ not_zero book k
  zero_kept k none = ap (λ byte. not (eqb byte 0)) (written.kept k none)

  feed_zero_kept : (j k : ℕ) → not_zero w (feed_zeros w (suc j) + k) ≡ not_zero book (feed_zeros book (suc j) + k)
  feed_zero_kept j k =
      ap (λ at. not_zero w (at (suc j) + 6 + k)) (feed_at_kept written)
      ∙ zero_kept (feed_zeros book (suc j) + k) (λ i l h. omega arith)

  pub zeros_kept : divisor_or_zeros_wrong w ≡ divisor_or_zeros_wrong book
  unfolding divisor_or_zeros_wrong
  zeros_kept =
      let divisor = ap (λ d. eqb d 0) (divisor_kept written) in
      let header = some_same header_zero_count (λ k l. zero_kept (header_zeros + k) (λ i m h. omega arith)) in
      let own =
      ap₂ some_below (members_kept written)
      (fun_ext (λ i. some_same member_zero_count (λ k l. zero_kept (member_zeros i + k) (λ j m h. omega arith)))) in
      let feeds =
      ap₂ some_below (feed_count_kept written)
      (fun_ext (λ j. ap (some_below feed_zero_count) (fun_ext (feed_zero_kept j)))) in
      cc
