-- A line of the form, by an accepted book: the call that fills in the factors leaves each member's at the line's rate,
-- and its number has four digits, so that its mark is the definition's.
use Rattle.std.proofs.Common.{◌≡◌, ℕ, ◌-◌, ◌<◌, List, ◌++◌, get_or}
use Rattle.std.proofs.Common.{ap, ap₂, ◌∙◌, arith}
use Rattle.std.proofs.Math.ListN.{get_or-append}
use Rattle.book.specs.Fields.{members, scale_of}
use Rattle.book.specs.BookGrounds.{Accepted}
use Rattle.book.specs.Rates.{rates_at}
use Rattle.balance.specs.Chain.{chain_of}
use Rattle.balance.specs.Balance.{raised}
use Rattle.balance.specs.Factors.{factors_at, factor_at}
use Rattle.balance.proofs.AnyChain.Reported.{reported_at}
use Rattle.balance.proofs.Call.CallAnswers.{factors_length}
use Rattle.entry.specs.declared.scaling.Share.{Share}
use Rattle.printed.specs.Mark.{mark_of}
use Rattle.printed.specs.declared.mark.Mark.{Mark}
use Rattle.marking.specs.Lines.{rate_in, share_in}
use Rattle.marking.specs.Marks.{mark_in}

module _ (book : List ℕ) (v : ℕ) (accepted : Accepted book) where
  pub filled_at :
      (rest : List ℕ) {list : List ℕ} → list ≡ factors_at book v ++ rest → (i : ℕ) → i < members book →
      get_or list i 0 ≡ factor_at book v i
  filled_at rest is i l =
      let long = factors_length book v accepted in
      ap (λ xs. get_or xs i 0) is
      ∙ get_or-append (factors_at book v) rest 0 i (omega arith)
      ∙ reported_at (scale_of book) (chain_of book) (rates_at book v) (members book - 1) i (omega arith)

-- The mark of the definition's number, factor and end of the interval.
pub marked :
    (book line : List ℕ) (i : ℕ) {share : Share} {factor high : ℕ} {mark : Mark} →
    mark ≡ mark_of share factor high → share ≡ share_in (members book) line i →
    factor ≡ factor_at book (rate_in (members book) line) i → high ≡ raised i factor → mark ≡ mark_in book line i
unfolding mark_in
marked book line i {share} {factor} {high} is number balanced end =
    is
    ∙ ap (λ h. mark_of share factor h) end
    ∙ ap₂ (λ s f. mark_of s f (raised i f)) number balanced
