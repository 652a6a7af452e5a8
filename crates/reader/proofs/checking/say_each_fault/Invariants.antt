-- `reader::checking::say_each_fault` is safe and ends: a descriptor at a time. Assumes nothing.
use Rattle.std.proofs.Common.{◌-◌, length}
use Rattle.reader.proofs.checking.say_each_fault.Given as goal

abbrev pub decreases-loop-i : goal.decreases-loop-i
decreases-loop-i l = length l.s - l.i
