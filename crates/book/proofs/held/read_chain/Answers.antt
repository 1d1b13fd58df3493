-- Each array is filled with what the book has.
use Rattle.std.proofs.Common.{rules}
use Rattle.book.specs.Fields.{half_life}
use Rattle.book.proofs.held.read_chain.Goals as goal

pub invariant_of-result : goal.invariant_of-result
invariant_of-result c =
    record {
      held = record {
        count = c.member_places-members.ensures;
        half_life_array =
            rw (← c.member_places-members.ensures)
            (c.fill_first.ensures (half_life c.args.book.now) (λ i x l e. search rules));
        end_array = rw (← c.member_places-members.ensures) c.feeds_in.ensures.ended;
        feed_array = rw (← c.member_places-members.ensures) c.feeds_in.ensures.placed.list;
      };
    }
