-- `mend::count_all` meets its contract: the loop carries the count so far and what is left.
use Prim.Native.Nat.{◌-◌}
use lib.ListN.{length}
use Rattle.mend.proofs.Walking.{Counts}
use Rattle.mend.proofs.count_all.Given as goal

abbrev pub invariant-loop-at : goal.invariant-loop-at
invariant-loop-at l = Counts l.removable l.s l.count l.at

abbrev pub decreases-loop-at : goal.decreases-loop-at
decreases-loop-at l = length l.s - l.at
