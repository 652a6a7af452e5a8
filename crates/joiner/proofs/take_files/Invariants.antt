-- `joiner::take_files` is safe and ends: the index rises to the count of pairs of arguments. Assumes nothing.
use Rattle.std.proofs.Common.{◌-◌}
use Rattle.joiner.proofs.take_files.Given as goal

abbrev pub decreases-loop-k : goal.decreases-loop-k
decreases-loop-k l = l.pairs - l.k
