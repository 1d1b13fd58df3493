use Rattle.std.proofs.Common.{sym}
use Rattle.book.proofs.HeldFields.{no_feeds_before}
use Rattle.book.proofs.chain.HeldChain.feeds_start.Goals as goal

pub returns-then-i-eq0 : goal.returns-then-i-eq0
returns-then-i-eq0 c = rw c.if-i-eq0.true (sym (no_feeds_before c.args.self.now.bytes.now))
