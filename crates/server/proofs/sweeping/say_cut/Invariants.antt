-- `server::sweeping::say_cut` is safe and ends: a round at a time, no more than there are starts. Assumes nothing.
use Rattle.std.proofs.Common.{◌-◌}
use Rattle.server.proofs.sweeping.say_cut.Given as goal

abbrev pub decreases-loop-i : goal.decreases-loop-i
decreases-loop-i l = 65536 - l.i
