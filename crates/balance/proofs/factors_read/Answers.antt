-- The count that is answered is the book's, of which the fill keeps the promise.
use Rattle.std.proofs.Common.{subst}
use Rattle.std.specs.Prelude.{Ok, ℕ}
use Rattle.book.specs.Fields.{members}
use Rattle.balance.specs.Promises.{ListPromise}
use Rattle.balance.proofs.factors_read.Goals as goal

pub returns-clause-sound : goal.returns-clause-sound
returns-clause-sound c n i answered l =
    let book = c.args.chain.now.bytes.now in
    subst
    (λ (v : ℕ). ListPromise v book (Ok (members book)) c.fill_accepted.new.out)
    c.in_ok-rate.ensures.1
    c.fill_accepted.ensures.sound
    n
    i
    (cc c.members-members.ensures.value)
    l
