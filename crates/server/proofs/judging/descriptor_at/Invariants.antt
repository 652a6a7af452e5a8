-- `server::judging::descriptor_at` is safe and ends: it takes a turn more with each descriptor. Assumes nothing.
use Rattle.std.proofs.Common.{◌-◌}
use Rattle.server.proofs.judging.descriptor_at.Given as goal

abbrev pub decreases-loop-i : goal.decreases-loop-i
decreases-loop-i l = 65536 - l.i
