-- A space and the entry are handed over one after the other. The factor is no larger than the parent's, so the entry is
-- its own.
use Rattle.std.proofs.Common.{◌≡◌, min, ap, ◌∙◌, arith}
use Rattle.balance.specs.Balance.{G}
use Rattle.text.proofs.Pieces.{and_then}
use Rattle.entry.specs.Entry.{entry_of}
use Rattle.tables.proofs.lines.put_entry.Goals as goal

pub returns : goal.returns
returns g c =
    let factor = c.args.factor in
    let same : min factor G ≡ factor = omega arith in
    rw (c.entry_of.ensures.answered ∙ ap entry_of same) at (and_then g.met.S.Sink.laws c.word.ensures c.word-2.ensures)
