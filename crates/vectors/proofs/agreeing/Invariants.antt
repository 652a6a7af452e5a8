-- `vectors::agreeing` is safe and ends: the index rises to the length.
use Rattle.std.proofs.Common.{◌-◌, length}
use Rattle.vectors.proofs.agreeing.Given as goal

abbrev pub decreases-loop-i : goal.decreases-loop-i
decreases-loop-i l = length l.a - l.i
