-- `server::judging::judge_each` is safe and ends: the index rises to the count. Assumes nothing.
use Rattle.std.proofs.Common.{◌-◌}
use Rattle.server.proofs.judging.judge_each.Given as goal

abbrev pub decreases-loop-i : goal.decreases-loop-i
decreases-loop-i l = l.count - l.i
