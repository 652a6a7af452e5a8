-- `program_words::told::feature_of` is safe and ends: the walk goes one descriptor on for each entry. Assumes nothing.
use Rattle.std.proofs.Common.{◌-◌}
use Rattle.program_words.proofs.told.feature_of.Given as goal

abbrev pub decreases-loop-i : goal.decreases-loop-i
decreases-loop-i l = l.entry - l.i
