-- `program_io::dumps::say_columns` is safe and ends: each turn moves the place on. Assumes nothing.
use Rattle.std.proofs.Common.{◌-◌}
use Rattle.program_io.proofs.dumps.say_columns.Given as goal

abbrev pub decreases-loop-i : goal.decreases-loop-i
decreases-loop-i l = 16 - l.i
