-- A turn passes one minute more in the list itself.
use Rattle.minutes.proofs.Holding.{minutes_none, minutes_more}
use Rattle.minutes.proofs.passing.pass_minutes.Goals as goal

pub loop-passed-init : goal.loop-passed-init
loop-passed-init c = minutes_none c.args.v.hundredths c.requires

pub loop-passed-preserved : goal.loop-passed-preserved
loop-passed-preserved c =
    minutes_more c.args.v.hundredths c.loop-passed._passed c.loop-passed.invariant c.pass_minute.ensures
