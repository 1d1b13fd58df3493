-- In each row the places below i hold the reported factors of the members below i.
use Rattle.std.proofs.Common.{ℕ, List}
use Rattle.book.specs.Fields.{members}
use Rattle.book.proofs.Filled.{Filled}
use Rattle.balance.specs.Factors.{factor_at}
use Rattle.portfolios.proofs.four.fill_four.Given as goal

abbrev pub invariant-loop-i : goal.invariant-loop-i
invariant-loop-i l =
    let book = l.chain.chain.now.bytes.now in
    let row : ℕ → List ℕ → List ℕ → Type 0 = λ v list now. Filled (factor_at book v) list (members book) l.i now in
    record {
      a : row l.v.a.hundredths l.initial.a l.a;
      b : row l.v.b.hundredths l.initial.b l.b;
      c : row l.v.c.hundredths l.initial.c l.c;
      d : row l.v.d.hundredths l.initial.d l.d;
    }
