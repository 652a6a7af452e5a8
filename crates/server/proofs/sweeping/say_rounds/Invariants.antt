-- `server::sweeping::say_rounds` is safe and ends: the index rises to the count of starts. Assumes nothing.
use Rattle.std.proofs.Common.{◌-◌, length}
use Rattle.server.proofs.sweeping.say_rounds.Given as goal

abbrev pub decreases-loop-i : goal.decreases-loop-i
decreases-loop-i l = length l.starts - l.i
