-- `program_words::names::bodies::say_listed` is safe and ends: the place rises to the line's length. Assumes nothing.
use Rattle.std.proofs.Common.{◌-◌, length}
use Rattle.program_words.proofs.bodies.say_listed.Given as goal

abbrev pub decreases-loop-at : goal.decreases-loop-at
decreases-loop-at l = length l.line - l.at
