-- The chain is that of the book.
use Rattle.std.proofs.Common.{subst, List, ℕ}
use Rattle.balance.specs.Promises.{ListPromise}
use Rattle.balance.proofs.factors.Goals as goal

pub returns-clause-sound : goal.returns-clause-sound
returns-clause-sound c =
    subst
    (λ (book : List ℕ). ListPromise c.args.v book c.factors_read.result c.factors_read.new.out)
    c.read_chain-chain.ensures
    c.factors_read.ensures.sound
