-- `responder::put_rows` meets its contract: turn by turn as over any layout (Fitting.antt).
use Prim.Native.Nat.{◌-◌}
use Rattle.layout.specs.declared.Layout.TheVariants.{Rows}
use Rattle.layout.specs.Layout.{stored}
use Rattle.responder.proofs.Fitting.{Walked}
use Rattle.responder.proofs.put_rows.Given as goal

abbrev pub invariant-loop-i : goal.invariant-loop-i
invariant-loop-i l = Walked l.rt (stored Rows l.s) l.from l.to l.initial.out l.at l.out l.next l.i

abbrev pub decreases-loop-i : goal.decreases-loop-i
decreases-loop-i l = l.to - l.i
