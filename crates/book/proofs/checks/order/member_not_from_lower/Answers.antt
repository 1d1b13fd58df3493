use Rattle.std.proofs.Common.{rules}
use Rattle.book.proofs.Sought.{some_of_feeds}
use Rattle.book.specs.Fields.{feeds_of}
use Rattle.book.proofs.checks.order.member_not_from_lower.Goals as goal

pub returns : goal.returns
returns c =
    some_of_feeds c.any.new.self _ (feeds_of c.args.book.now c.args.i) c.any.ensures.ran (search rules)
    (λ x b q k. search rules)
