-- What a call that fills a lent list answers and leaves there, from what its checks find, whichever they are.
-- A refusal is handed on with the list as it was; where the checks pass, the first places hold the factors.
use Rattle.refusals.specs.Grounds.{Checked, answer_if, answer_number, written_if}
use Prim.Native.Nat.{ℕ, suc, ◌-◌, ◌<◌}
use native.Mathlib.Omega.{arith}
use mathlib.Core.Path.{◌≡◌, refl, sym, ◌∙◌, ap}
use mathlib.Core.List.{List, ◌++◌}
use Rattle.std.specs.Prelude.{pos, Ok, Err}
use lib.ListN.{length, get_or, drop, get_or-append}
use Rattle.book.specs.Rates.{rates_at}
use Rattle.book.specs.Fields.{members, scale_of}
use Rattle.balance.specs.Chain.{chain_of}
use Rattle.balance.specs.Factors.{factors_at}
use Rattle.book.specs.BookGrounds.{Accepted}
use Rattle.refusals.specs.declared.Refusal.{Refusal}
use Rattle.refusals.proofs.Numbers.{no_count}
use Rattle.book.proofs.Ranges.{accepted_ranges}
use Rattle.balance.proofs.AnyChain.Reported.{reported_length}

module _ {found all : Checked} (checked : found ≡ all) (n : ℕ) (factors list : List ℕ) where
  module _ {r : Refusal} (refused : found ≡ Err r) where
    pub refused_answer : Err r ≡ answer_if all n
    refused_answer = ap (λ result. answer_if result n) (sym refused ∙ checked)

    pub refused_list : list ≡ written_if all factors list
    refused_list = ap (λ result. written_if result factors list) (sym refused ∙ checked)

  module _ (passed : found ≡ Ok tt) where
    pub filled_answer : {count : ℕ} → count ≡ n → Ok count ≡ answer_if all n
    filled_answer counted = ap Ok counted ∙ ap (λ result. answer_if result n) (sym passed ∙ checked)

    pub filled_list : {now : List ℕ} → length factors ≡ n → now ≡ factors ++ drop n list →
        now ≡ written_if all factors list
    filled_list size written =
        written
        ∙ ap (λ count. factors ++ drop count list) (sym size)
        ∙ ap (λ result. written_if result factors list) (sym passed ∙ checked)

-- The answer n is given where the checks pass, and n is the count.
pub filled_passed :
    (found : Checked) (count n : ℕ) → answer_number (answer_if found count) ≡ pos n →
    (found ≡ Ok tt) × (count ≡ n)
filled_passed (Ok tt) count n e = (refl, cc)
filled_passed (Err r) count n e = absurd (no_count r n e)

-- And place i then holds factor i.
pub place_holds : {found : Checked} (factors list : List ℕ) → found ≡ Ok tt → (i : ℕ) → i < length factors →
    get_or (written_if found factors list) i 0 ≡ get_or factors i 0
place_holds factors list passed i l =
    ap (λ result. get_or (written_if result factors list) i 0) passed ∙ get_or-append factors _ 0 i l

-- One factor for each member.
pub factors_length : (book : List ℕ) (v : ℕ) → Accepted book → length (factors_at book v) ≡ members book
factors_length book v accepted =
    let some = (accepted_ranges book accepted).members_count.from in
    let last : suc (members book - 1) ≡ members book = omega arith in
    reported_length (scale_of book) (chain_of book) (rates_at book v) (members book - 1) ∙ last
