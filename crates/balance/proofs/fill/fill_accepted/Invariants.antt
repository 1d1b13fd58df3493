-- The places below i hold the reported factors of the members below i.
use Rattle.book.specs.Fields.{members}
use Rattle.book.proofs.Filled.{Filled}
use Rattle.balance.specs.Factors.{factor_at}
use Rattle.balance.proofs.fill.fill_accepted.Given as goal

abbrev pub invariant-loop-i : goal.invariant-loop-i
invariant-loop-i l =
    let book = l.chain.chain.now.bytes.now in
    Filled (factor_at book l.v.hundredths) l.initial.out (members book) l.i l.out
