-- `needs::walk::first_long` meets its contract: the loop carries what is left of the search.
use Prim.Native.Nat.{◌-◌}
use mathlib.Core.Path.{◌≡◌}
use lib.ListN.{length}
use Rattle.reading.specs.inner.Between.{from}
use Rattle.needs.specs.inner.Walk.{first_long}
use Rattle.needs.proofs.walk.first_long.Given as goal

abbrev pub invariant-loop-at : goal.invariant-loop-at
invariant-loop-at l = first_long l.limit (from l.s l.first) ≡ first_long l.limit (from l.s l.at)

abbrev pub decreases-loop-at : goal.decreases-loop-at
decreases-loop-at l = length l.s - l.at
