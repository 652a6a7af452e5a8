-- `program_words::names::bodies::say_text` is safe and ends: a character at a time. Assumes nothing.
use Rattle.std.proofs.Common.{◌-◌, length}
use Rattle.program_words.proofs.bodies.say_text.Given as goal

abbrev pub decreases-loop-i : goal.decreases-loop-i
decreases-loop-i l = length l.text - l.i
