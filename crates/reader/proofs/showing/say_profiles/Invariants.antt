-- `reader::showing::say_profiles` is safe and ends: a profile at a time. Assumes nothing.
use Rattle.std.proofs.Common.{◌-◌, length}
use Rattle.reader.proofs.showing.say_profiles.Given as goal

abbrev pub decreases-loop-at : goal.decreases-loop-at
decreases-loop-at l = length l.body - l.at
