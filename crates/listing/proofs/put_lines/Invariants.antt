-- `listing::put_lines` meets its contract: the loop has listed the descriptors passed. Assumes nothing.
use Prim.Native.Nat.{◌-◌, ◌≤◌}
use lib.ListN.{length}
use Rattle.reading.specs.inner.Between.{between}
use Rattle.listing.proofs.Passed.{Passed}
use Rattle.listing.proofs.put_lines.Given as goal

abbrev pub invariant-loop-place : goal.invariant-loop-place
invariant-loop-place l = (l.end ≤ length l.s) × Passed l.s l.initial.out l.at l.place l.next l.out (between l.s l.place l.end)

abbrev pub decreases-loop-place : goal.decreases-loop-place
decreases-loop-place l = l.end - l.place
