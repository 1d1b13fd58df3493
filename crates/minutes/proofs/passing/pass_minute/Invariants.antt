-- The loop fills the list with this minute's factors, each made of those before it and of the old one that still stands
-- in its place.
use Rattle.book.specs.Fields.{members, scale_of}
use Rattle.book.proofs.Filled.{Filled}
use Rattle.book.specs.Rates.{rates_at}
use Rattle.balance.specs.Chain.{chain_of}
use Rattle.minutes.proofs.Minute.{renewed}
use Rattle.minutes.proofs.passing.pass_minute.Given as goal

abbrev pub invariant-loop-i : goal.invariant-loop-i
invariant-loop-i l =
    let book = l.chain.chain.now.bytes.now in
    let factors = renewed (scale_of book) (chain_of book) (rates_at book l.v.hundredths) l.initial.out in
    Filled factors l.initial.out (members book) l.i l.out
