-- What passing the call's checks says: each rate is within its limit, and the book is accepted.
-- Then there is one factor for each member.
use Rattle.std.specs.Prelude.{Ok}
use Prim.Native.Nat.{ℕ, ◌+◌, ◌-◌, ◌/◌}
use native.Mathlib.Omega.{arith}
use mathlib.Core.Path.{◌≡◌, sym, ◌∙◌}
use mathlib.Core.List.{List, [], ◌∷◌}
use lib.Dec.{ltb}
use lib.ListN.{length}
use borrow.Author.Tests.{ltb-false}
use Rattle.refusals.specs.Grounds.{ground_of, first_met}
use Rattle.refusals.specs.declared.Refusal.TheVariants.{ListTooShort}
use Rattle.refusals.proofs.FirstMet.{not_met, first_of_both, both_pass}
use Rattle.book.specs.Fields.{members, scale_of}
use Rattle.book.specs.BookGrounds.{book_grounds, Accepted}
use Rattle.numbers.proofs.NoneMet.{none_below}
use Rattle.book.specs.Rates.{max_rate, rates_at}
use Rattle.balance.specs.Chain.{chain_of}
use Rattle.minutes.specs.Minutes.{rate_of}
use Rattle.minutes.specs.Periods.{period_count, period_rate_too_high}
use Rattle.minutes.specs.Periods.{periods_out_of_range, periods_grounds, factors_after}
use Rattle.minutes.specs.Private.Holding.{RatesWithin}
use Rattle.minutes.proofs.Periods.{periods_length}
use Rattle.minutes.proofs.Holding.{members_are}

pub periods_pass :
    (periods book : List ℕ) (capacity : ℕ) → first_met (periods_grounds periods book capacity) ≡ Ok tt →
    RatesWithin periods × Accepted book
unfolding period_rate_too_high
periods_pass periods book capacity passed =
    let short = ground_of ListTooShort (ltb capacity (members book)) ∷ [] in
    let rated = not_met (period_rate_too_high periods) _ _ passed in
    let ranged = not_met (periods_out_of_range periods) _ _ rated.1 in (
      λ p l.
          ltb-false max_rate (rate_of periods p)
          (none_below ((length periods + 1) / 2) (λ k. ltb max_rate (rate_of periods k)) rated.0 p (omega arith)),
      (both_pass (first_met (book_grounds book)) (first_met short)
          (sym (first_of_both (book_grounds book) short) ∙ ranged.1)).0,
    )

pub factors_after_length : (periods book : List ℕ) → Accepted book → length (factors_after periods book) ≡ members book
factors_after_length periods book accepted =
    periods_length (scale_of book) (chain_of book) (rates_at book) (members book - 1) periods (period_count periods)
    ∙ members_are book accepted
