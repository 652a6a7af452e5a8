-- `program_words::tables::number` is safe and ends: the index rises to the length.
use Rattle.std.proofs.Common.{◌-◌, length}
use Rattle.program_words.proofs.tables.number.Given as goal

abbrev pub decreases-loop-i : goal.decreases-loop-i
decreases-loop-i l = length l.digits - l.i
