-- After i turns the numbers of the first i members are handed over.
use Rattle.marking.specs.Lines.{spaced_shares, share_in}
use Rattle.marking.proofs.form.put_shares.Given as goal

abbrev pub invariant-loop-i : goal.invariant-loop-i
invariant-loop-i g l = g.S.Sink.Took l.fn.sink (spaced_shares (share_in l.members l.line) l.i) l.sink
