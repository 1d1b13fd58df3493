-- Each turn's feed is the next of those ahead, so the sum on the way is at most the whole inflow, which fits a word.
use Rattle.std.proofs.Common.{arith}
use Rattle.book.specs.declared.feed.Feed.{Feed}
use Rattle.balance.proofs.Filling.AlongFeeds.{fed_inflow, turn, none_ahead}
use Rattle.balance.proofs.feeds.inflow_of.Goals as goal

abbrev no_feed : Feed
no_feed = record { share = 0; from = 0 }

pub bounds-factors-feed : goal.bounds-factors-feed
bounds-factors-feed c =
    let t =
    turn c.args.chain.accepted c.requires c.feeds-feed-items.ensures c.loop-feed.feed-index no_feed
    c.loop-feed-test.true in
    t.source

pub overflow_mul-sum : goal.overflow_mul-sum
overflow_mul-sum c =
    let t =
    turn c.args.chain.accepted c.requires c.feeds-feed-items.ensures c.loop-feed.feed-index no_feed
    c.loop-feed-test.true in
    rw c.from.ensures
    record {
      fits =
          omega (
            arith,
            t.next,
            c.loop-feed.invariant,
            fed_inflow c.args.chain.accepted c.requires c.feeds-feed-items.ensures,
            c.requires.fits,
          );
    }

pub overflow_add-sum : goal.overflow_add-sum
overflow_add-sum c =
    let t =
    turn c.args.chain.accepted c.requires c.feeds-feed-items.ensures c.loop-feed.feed-index no_feed
    c.loop-feed-test.true in
    rw c.from.ensures
    record {
      fits =
          omega (
            arith,
            t.next,
            c.loop-feed.invariant,
            fed_inflow c.args.chain.accepted c.requires c.feeds-feed-items.ensures,
            c.requires.fits,
          );
    }

pub returns : goal.returns
returns c =
    omega (
      arith,
      c.loop-feed.invariant,
      none_ahead c.args.factors.now c.feeds-feed-items.result.now c.loop-feed.feed-index c.loop-feed-test.false,
      fed_inflow c.args.chain.accepted c.requires c.feeds-feed-items.ensures,
    )
