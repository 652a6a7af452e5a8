-- `program_io::dumps::say_characters` is safe and ends: each turn moves the place on. Assumes nothing.
use Rattle.std.proofs.Common.{◌-◌, length}
use Rattle.program_io.proofs.dumps.say_characters.Given as goal

abbrev pub decreases-loop-i : goal.decreases-loop-i
decreases-loop-i l = length l.row - l.i
