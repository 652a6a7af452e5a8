-- `rom::put_currents` meets its contract: the loop carries what was written and what is left; a full buffer takes no more.
use Prim.Native.Nat.{◌-◌}
use lib.ListN.{length}
use Rattle.rom.proofs.Runs.{Copied}
use Rattle.rom.proofs.put_currents.Given as goal

abbrev pub invariant-loop-place : goal.invariant-loop-place
invariant-loop-place l = Copied l.initial.out l.at l.image l.from l.out l.next l.place

abbrev pub decreases-loop-place : goal.decreases-loop-place
decreases-loop-place l = length l.image - l.place
