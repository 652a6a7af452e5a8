-- `reader::mending::say_changes` is safe and ends: the index rises to the list's length. Assumes nothing.
use Rattle.std.proofs.Common.{◌-◌, length}
use Rattle.reader.proofs.mending.say_changes.Given as goal

abbrev pub decreases-loop-i : goal.decreases-loop-i
decreases-loop-i l = length l.list - l.i
