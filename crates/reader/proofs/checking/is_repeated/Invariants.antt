-- `reader::checking::is_repeated` is safe and ends: the place rises to the descriptor's length. Assumes nothing.
use Rattle.std.proofs.Common.{◌-◌, length}
use Rattle.reader.proofs.checking.is_repeated.Given as goal

abbrev pub decreases-loop-before : goal.decreases-loop-before
decreases-loop-before l = length l.descriptor - l.before
