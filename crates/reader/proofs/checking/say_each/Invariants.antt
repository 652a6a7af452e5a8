-- `reader::checking::say_each` is safe and ends: the place rises to the descriptor's length. Assumes nothing.
use Rattle.std.proofs.Common.{◌-◌, length}
use Rattle.reader.proofs.checking.say_each.Given as goal

abbrev pub decreases-loop-at : goal.decreases-loop-at
decreases-loop-at l = length l.descriptor - l.at
