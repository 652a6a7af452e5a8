-- `program_words::tables::text_of` is safe and ends: the place rises to the length.
use Rattle.std.proofs.Common.{◌-◌, length}
use Rattle.program_words.proofs.tables.text_of.Given as goal

abbrev pub decreases-loop-at : goal.decreases-loop-at
decreases-loop-at l = length l.table - l.at
