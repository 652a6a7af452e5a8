-- `reader::checking::say_each_broken` is safe and ends: a number at a time. Assumes nothing.
use Rattle.std.proofs.Common.{◌-◌}
use Rattle.reader.proofs.checking.say_each_broken.Given as goal

abbrev pub decreases-loop-number : goal.decreases-loop-number
decreases-loop-number l = 65536 - l.number
