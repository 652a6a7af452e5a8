-- `vectors::spelt` is safe and ends: the index rises to the length, the buffer keeps its own, and digits are no more than there were bytes of text.
use Rattle.std.proofs.Common.{◌-◌, length}
use Rattle.vectors.proofs.spelt.Given as goal

abbrev pub decreases-loop-i : goal.decreases-loop-i
decreases-loop-i l = length l.text - l.i
