-- `program_words::names::bodies::say_list` is safe and ends: a number at a time. Assumes nothing.
use Rattle.std.proofs.Common.{◌-◌, length}
use Rattle.program_words.proofs.bodies.say_list.Given as goal

abbrev pub decreases-loop-at : goal.decreases-loop-at
decreases-loop-at l = length l.list - l.at
