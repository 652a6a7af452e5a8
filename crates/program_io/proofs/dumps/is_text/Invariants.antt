-- `program_io::dumps::is_text` is safe and ends: each turn moves the place on. Assumes nothing.
use Rattle.std.proofs.Common.{◌-◌, length}
use Rattle.program_io.proofs.dumps.is_text.Given as goal

abbrev pub decreases-loop-i : goal.decreases-loop-i
decreases-loop-i l = length l.s - l.i
