-- `responder::pieces_in` meets its contract: the loop adds up the entries passed.
use Prim.Native.Nat.{◌-◌}
use Rattle.layout.specs.Layout.{stored}
use Rattle.responder.proofs.Laws.{Summed}
use Rattle.responder.proofs.pieces_in.Given as goal

abbrev pub invariant-loop-i : goal.invariant-loop-i
invariant-loop-i l = Summed l.rt (stored l.lay l.s) l.from l.to l.i l.size

abbrev pub decreases-loop-i : goal.decreases-loop-i
decreases-loop-i l = l.to - l.i
