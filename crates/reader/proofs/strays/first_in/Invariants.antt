-- `reader::strays::first_in` is safe and ends: a byte at a time. Assumes nothing.
use Rattle.std.proofs.Common.{◌-◌, length}
use Rattle.reader.proofs.strays.first_in.Given as goal

abbrev pub decreases-loop-k : goal.decreases-loop-k
decreases-loop-k l = length l.descriptor - l.k
