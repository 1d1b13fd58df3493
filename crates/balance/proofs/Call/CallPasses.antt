-- What passing the call's checks says, and is told by.
use Rattle.std.specs.Prelude.{Ok, Err}
use Prim.Native.Nat.{ℕ}
use mathlib.Core.Bool.{cond}
use mathlib.Core.Path.{◌≡◌, ap, ap₂, sym, ◌∙◌}
use mathlib.Core.List.{List, [], ◌∷◌}
use lib.Dec.{ltb}
use borrow.Author.Tests.{ltb-false, le-ltb}
use Rattle.book.specs.Rates.{max_rate, rate_too_high}
use Rattle.book.specs.Fields.{members}
use Rattle.refusals.specs.Grounds.{ground_of, first_met, or_else, Checked}
use Rattle.book.specs.BookGrounds.{book_grounds, Accepted}
use Rattle.balance.specs.Factors.{factor_grounds}
use Rattle.balance.specs.Private.Fillable.{CallPasses}
use Rattle.refusals.specs.declared.Refusal.TheVariants.{RateTooHigh, ListTooShort}
use Rattle.refusals.proofs.FirstMet.{not_met, first_of_both, both_pass}

pub call_passes : (v : ℕ) (book : List ℕ) (capacity : ℕ) → first_met (factor_grounds v book capacity) ≡ Ok tt →
    CallPasses v book capacity
call_passes v book capacity passed =
    let short = ground_of ListTooShort (ltb capacity (members book)) ∷ [] in
    let rate = not_met (ltb max_rate v) _ _ passed in
    let rest =
    both_pass (first_met (book_grounds book)) (first_met short)
    (sym (first_of_both (book_grounds book) short) ∙ rate.1) in
    record {
      rate = ltb-false max_rate v rate.0;
      accepted = rest.0;
      enough = ltb-false capacity (members book) (not_met (ltb capacity (members book)) _ _ rest.1).0;
    }

-- What the call finds where the book is accepted: nothing but its count of members is read.
abbrev pub found_with : ℕ → ℕ → ℕ → Checked
found_with v members capacity =
    cond (rate_too_high v) (Err RateTooHigh) (cond (ltb capacity members) (Err ListTooShort) (Ok tt))

pub accepted_call : (v : ℕ) (book : List ℕ) (capacity : ℕ) → Accepted book →
    first_met (factor_grounds v book capacity) ≡ found_with v (members book) capacity
accepted_call v book capacity accepted =
    let short = ground_of ListTooShort (ltb capacity (members book)) ∷ [] in
    ap (cond (rate_too_high v) (Err RateTooHigh))
    (first_of_both (book_grounds book) short ∙ ap (λ found. or_else found (first_met short)) accepted)

pub passing_call : (v : ℕ) (book : List ℕ) (capacity : ℕ) → CallPasses v book capacity →
    first_met (factor_grounds v book capacity) ≡ Ok tt
passing_call v book capacity passes =
    accepted_call v book capacity passes.accepted
    ∙ ap₂ (λ high short. cond high (Err RateTooHigh) (cond short (Err ListTooShort) (Ok tt)))
    (le-ltb max_rate v passes.rate) (le-ltb capacity (members book) passes.enough)
