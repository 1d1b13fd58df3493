-- A block that is full has been sent.
use Rattle.std.proofs.Common.{◌<◌, length}
use Rattle.portfolio.proofs.blocks.write_run.Given as goal

abbrev pub invariant-loop-rate : goal.invariant-loop-rate
invariant-loop-rate l = length l.rates.items < 512
