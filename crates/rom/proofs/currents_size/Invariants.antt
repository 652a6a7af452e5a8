-- `rom::currents_size` meets its contract: the loop carries what is counted and what is left.
use Prim.Native.Nat.{◌-◌}
use lib.ListN.{length}
use Rattle.rom.proofs.Runs.{Counted}
use Rattle.rom.proofs.currents_size.Given as goal

abbrev pub invariant-loop-at : goal.invariant-loop-at
invariant-loop-at l = Counted l.image l.from l.size l.at

abbrev pub decreases-loop-at : goal.decreases-loop-at
decreases-loop-at l = length l.image - l.at
