-- `reading::walk_finding` meets its contract: the loop carries what is left of the walk, and where the descriptor was found.
use Prim.Native.Nat.{◌-◌, ◌≤◌}
use mathlib.Core.Path.{◌≡◌}
use lib.ListN.{length, drop}
use Rattle.reading.proofs.Spots.{Spotted}
use Rattle.reading.proofs.walk_finding.Given as goal

abbrev pub invariant-loop-at : goal.invariant-loop-at
invariant-loop-at l = (l.lengths ≡ drop 3 l.s) × (l.at ≤ length l.s) × Spotted l.feature.0 l.end l.s l.lo l.at l.place l.size

abbrev pub decreases-loop-at : goal.decreases-loop-at
decreases-loop-at l = length l.s - l.at
