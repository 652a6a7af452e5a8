-- `program_io::dumps::say_rows` is safe and ends: each turn moves the place on. Assumes nothing.
use Rattle.std.proofs.Common.{◌-◌, length}
use Rattle.program_io.proofs.dumps.say_rows.Given as goal

abbrev pub decreases-loop-at : goal.decreases-loop-at
decreases-loop-at l = length l.bytes - l.at
