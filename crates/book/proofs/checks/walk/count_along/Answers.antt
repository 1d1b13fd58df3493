use Rattle.std.proofs.Common.{arith, ◌≡◌, ◌∷◌}
use Rattle.book.specs.Private.Feeds.{feeds_left}
use Rattle.book.proofs.Counted.{counting_one, counting_all}
use Rattle.book.proofs.checks.walk.count_along.Goals as goal

pub loop-feed-preserved : goal.loop-feed-preserved
loop-feed-preserved c =
    let rest : feeds_left c.loop-feed.feed-iterator ≡ c.from-at.result ∷ feeds_left c.next.new.self =
    rw c.from-at.ensures c.in-Some.ensures.steps
    in
    counting_one c.loop-feed.invariant rest (omega arith) (omega arith)

pub returns : goal.returns
returns c = counting_all c.loop-feed.invariant c.in-None.ensures.steps.0
