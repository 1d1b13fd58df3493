use Rattle.std.proofs.Common.{◌∙◌}
use Rattle.book.proofs.Ranges.{accepted_ranges}
use Rattle.book.proofs.HeldFields.{all_members}
use Rattle.book.proofs.accepted.AcceptedChain.members.Goals as goal

pub returns-clause-value : goal.returns-clause-value
returns-clause-value c =
    c.args.self.chain.now.held.count
    ∙ all_members (accepted_ranges c.args.self.chain.now.bytes.now c.args.self.accepted)
