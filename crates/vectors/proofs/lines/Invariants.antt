-- `vectors::lines` is safe and ends: the place rises to the length.
use Rattle.std.proofs.Common.{◌-◌, length}
use Rattle.vectors.proofs.lines.Given as goal

abbrev pub decreases-loop-at : goal.decreases-loop-at
decreases-loop-at l = length l.s - l.at
