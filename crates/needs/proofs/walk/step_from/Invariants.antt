-- `needs::walk::step_from` meets its contract: the loop carries what is left of the search.
use Prim.Native.Nat.{◌-◌}
use mathlib.Core.Path.{◌≡◌}
use lib.ListN.{length}
use Rattle.reading.specs.inner.Between.{from}
use Rattle.needs.specs.inner.Walk.{step_from}
use Rattle.needs.proofs.walk.step_from.Given as goal

abbrev pub invariant-loop-at : goal.invariant-loop-at
invariant-loop-at l = step_from l.need l.longest (from l.s l.first) ≡ step_from l.need l.longest (from l.s l.at)

abbrev pub decreases-loop-at : goal.decreases-loop-at
decreases-loop-at l = length l.s - l.at
