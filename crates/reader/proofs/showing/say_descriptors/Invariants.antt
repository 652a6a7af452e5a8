-- `reader::showing::say_descriptors` is safe and ends: a descriptor at a time. Assumes nothing.
use Rattle.std.proofs.Common.{◌-◌, length}
use Rattle.reader.proofs.showing.say_descriptors.Given as goal

abbrev pub decreases-loop-i : goal.decreases-loop-i
decreases-loop-i l = length l.s - l.i
