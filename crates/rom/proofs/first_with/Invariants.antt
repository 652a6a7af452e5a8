-- `rom::first_with` meets its contract: the loop carries what is left of the search.
use Prim.Native.Nat.{◌-◌}
use mathlib.Core.Path.{◌≡◌}
use lib.ListN.{length}
use Rattle.rom.specs.inner.Standing.{first_at, current_at}
use Rattle.rom.proofs.first_with.Given as goal

abbrev pub invariant-loop-at : goal.invariant-loop-at
invariant-loop-at l = first_at (current_at l.on l.image) l.image l.from ≡ first_at (current_at l.on l.image) l.image l.at

abbrev pub decreases-loop-at : goal.decreases-loop-at
decreases-loop-at l = length l.image - l.at
