-- `reading::walk_number` meets its contract: the loop carries what is left of the walk.
use Prim.Native.Nat.{◌+◌, ◌-◌, ◌≤◌}
use mathlib.Core.Path.{◌≡◌}
use lib.ListN.{length, drop}
use Rattle.reading.proofs.Going.{Numbered}
use Rattle.reading.proofs.walk_number.Given as goal

abbrev pub invariant-loop-at : goal.invariant-loop-at
invariant-loop-at l = (l.lengths ≡ drop 3 l.s) × (l.at ≤ length l.s + 259) × Numbered l.end l.s l.lo l.at

abbrev pub decreases-loop-at : goal.decreases-loop-at
decreases-loop-at l = length l.s - l.at
