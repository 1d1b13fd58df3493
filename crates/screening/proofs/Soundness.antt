-- A verdict tells the truth of the exact quantity: a book's exact factors, over the last member's denominator, enclose
-- the reported ones.
use Prim.Native.Nat.{ℕ, ◌-◌, ◌≤◌}
use mathlib.Core.List.{List}
use Rattle.book.proofs.Rates.{scale_positive}
use Rattle.book.specs.Rates.{max_rate, rates_at}
use Rattle.book.specs.Fields.{members, scale_of}
use Rattle.balance.specs.Chain.{chain_of}
use Rattle.book.specs.BookGrounds.{Accepted}
use Rattle.verdict.specs.Verdict.{verdict_at}
use Rattle.verdict.specs.Promises.{Enclosed}
use Rattle.verdict.specs.declared.verdict.Criterion.{Criterion}
use Rattle.verdict.proofs.Soundness as any
use Rattle.screening.specs.Screening.{assessment_at}
use Rattle.screening.specs.Promises.{VerdictPromise, exact_denominator, exact_factor}
use Rattle.balance.proofs.AnyChain.Numerators.{denominator_pos}
use Rattle.balance.proofs.Promised.{factor_promises}
use Rattle.screening.proofs.Enclosing.{factors_enclosed}

pub verdict_promise :
    (by : Criterion) (book : List ℕ) (coefficient : ℕ → ℕ → ℕ) (v C : ℕ) → Accepted book → v ≤ max_rate →
    VerdictPromise by book coefficient v C (verdict_at (assessment_at by book coefficient v) C)
verdict_promise by book coefficient v C accepted le =
    let n = members book in
    let a = assessment_at by book coefficient v in
    let enclosed : Enclosed n (exact_denominator book v) a.factor (exact_factor book v) =
    factors_enclosed (scale_positive book) n (λ i l. factor_promises.at_a_rate book v i accepted le l)
    in
    any.verdict_promise a C (exact_denominator book v) (exact_factor book v) enclosed
    (denominator_pos (scale_of book) (chain_of book) (rates_at book v) (scale_positive book) (n - 1))
