-- `needs::walk::lowest_in` meets its contract: the loop carries what is left of the walk over lines and descriptors.
use Prim.Native.Nat.{◌-◌}
use lib.ListN.{length}
use Rattle.reading.specs.Places.{descs}
use Rattle.needs.specs.Judge.{wrong_in}
use Rattle.needs.specs.inner.Table.{lines_in}
use Rattle.needs.proofs.Resumed.{Left}
use Rattle.needs.proofs.walk.lowest_in.Given as goal

abbrev pub invariant-loop-i : goal.invariant-loop-i
invariant-loop-i l = Left l.column l.rows l.s (wrong_in (lines_in l.rows) l.column (descs l.s)) (length l.rows) l.i l.at

abbrev pub decreases-loop-i : goal.decreases-loop-i
decreases-loop-i l = length l.rows - l.i
