-- `responder::put_columns` meets its contract: turn by turn as over any layout (Fitting.antt).
use Prim.Native.Nat.{◌-◌}
use Rattle.layout.specs.declared.Layout.TheVariants.{Columns}
use Rattle.layout.specs.Layout.{stored}
use Rattle.responder.proofs.Fitting.{Walked}
use Rattle.responder.proofs.put_columns.Given as goal

abbrev pub invariant-loop-i : goal.invariant-loop-i
invariant-loop-i l = Walked l.rt (stored Columns l.s) l.from l.to l.initial.out l.at l.out l.next l.i

abbrev pub decreases-loop-i : goal.decreases-loop-i
decreases-loop-i l = l.to - l.i
