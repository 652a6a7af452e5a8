-- `capture::flags_fault` meets its contract: the loop carries what is left of the search.
use Prim.Native.Nat.{◌+◌, ◌-◌, ◌*◌, ◌≤◌}
use mathlib.Core.Path.{◌≡◌}
use lib.ListN.{length}
use Rattle.capture.specs.Capture.{flags_faults}
use Rattle.reading.specs.inner.Between.{from}
use Rattle.capture.proofs.flags_fault.Given as goal

abbrev pub invariant-loop-at : goal.invariant-loop-at
invariant-loop-at l = (flags_faults 1 (from l.s l.first) ≡ flags_faults l.place (from l.s l.at)) × (4 * l.place ≤ l.at + 4)

abbrev pub decreases-loop-at : goal.decreases-loop-at
decreases-loop-at l = length l.s - l.at
