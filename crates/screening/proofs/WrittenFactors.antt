-- With a second set written over a book the chain is the book's, and so are the factors and the factor call.
use Prim.Native.Nat.{ℕ}
use mathlib.Core.Path.{◌≡◌, refl, ap, ap₂, sym, fun_ext, ◌∙◌}
use mathlib.Core.Bool.{false}
use mathlib.Core.List.{List}
use lib.ListN.{length}
use Rattle.refusals.specs.Grounds.{first_met, answer_if, written_if}
use Rattle.book.specs.Fields.{members, scale_of}
use Rattle.book.specs.BookGrounds.{Accepted}
use Rattle.coefficients.specs.SetGrounds.{second_set_out_of_range}
use Rattle.coefficients.specs.WrittenOver.{written_over}
use Rattle.coefficients.proofs.GroupsOver.{Written}
use Rattle.coefficients.proofs.WrittenFields.{members_kept, half_life_kept, scale_kept, rates_kept}
use Rattle.coefficients.proofs.WrittenFeeds.{feeds_kept}
use Rattle.coefficients.proofs.WrittenOver.{second_written, still_accepted}
use Rattle.balance.specs.Chain.{chain_of}
use Rattle.balance.specs.Balance.{reported_factor}
use Rattle.balance.specs.Factors.{factor_at, factors_at, factor_grounds, factor_answer, factor_list}
use Rattle.balance.proofs.Call.CallPasses.{found_with, accepted_call}

module _ {second book w : List ℕ} (written : Written second book (members book) w) where
  chain_kept : chain_of w ≡ chain_of book
  chain_kept = rw (members_kept written, half_life_kept written, fun_ext (feeds_kept written)) refl

  pub factor_kept : (v i : ℕ) → factor_at w v i ≡ factor_at book v i
  factor_kept v i = rw (scale_kept written, chain_kept, rates_kept written) refl

  pub factors_kept : (v : ℕ) → factors_at w v ≡ factors_at book v
  factors_kept v = rw (scale_kept written, chain_kept, rates_kept written, members_kept written) refl

  pub rest_kept : (i : ℕ) → reported_factor (scale_of w) (chain_of w) (λ k. 0) i
      ≡ reported_factor (scale_of book) (chain_of book) (λ k. 0) i
  rest_kept i = rw (scale_kept written, chain_kept) refl

-- The factor call reads nothing of a member's numbers, once the book is accepted.
module _ (second book : List ℕ) (accepted : Accepted book) (fits : second_set_out_of_range book second ≡ false)
    (v : ℕ) where
  abbrev w : List ℕ
  w = written_over second book

  call_found : (capacity : ℕ) → first_met (factor_grounds v w capacity) ≡ first_met (factor_grounds v book capacity)
  call_found capacity =
      accepted_call v w capacity (still_accepted second book fits accepted)
      ∙ ap (λ n. found_with v n capacity) (members_kept (second_written second book accepted))
      ∙ sym (accepted_call v book capacity accepted)

  pub call_kept : (capacity : ℕ) → factor_answer v w capacity ≡ factor_answer v book capacity
  call_kept capacity = ap₂ answer_if (call_found capacity) (members_kept (second_written second book accepted))

  pub list_kept : (list : List ℕ) → factor_list v w list ≡ factor_list v book list
  list_kept list =
      ap₂ (λ found factors. written_if found factors list) (call_found (length list))
      (factors_kept (second_written second book accepted) v)
