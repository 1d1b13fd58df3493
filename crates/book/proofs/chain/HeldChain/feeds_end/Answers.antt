use Rattle.std.proofs.Common.{arith, ◌∙◌, suc}
use Rattle.book.proofs.HeldFields.{end_at, feeds_fit}
use Rattle.book.proofs.chain.HeldChain.feeds_end.Goals as goal

pub returns-clause-value : goal.returns-clause-value
returns-clause-value c = c.from.ensures ∙ end_at c.args.self.now.held c.args.i c.requires

pub returns-clause-within : goal.returns-clause-within
returns-clause-within c =
    omega (
      arith,
      c.from.ensures,
      end_at c.args.self.now.held c.args.i c.requires,
      feeds_fit c.args.self.now.bytes.now (suc c.args.i),
    )
