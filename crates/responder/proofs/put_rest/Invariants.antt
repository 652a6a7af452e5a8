-- `responder::put_rest` meets its contract: the loop has written the entries passed; a full buffer takes no more.
use Prim.Native.Nat.{◌-◌, ◌≤◌}
use Rattle.lent.specs.Wrote.{Wrote}
use Rattle.layout.specs.Layout.{stored}
use Rattle.responder.specs.inner.Index.{pieces}
use Rattle.responder.proofs.put_rest.Given as goal

abbrev pub invariant-loop-i : goal.invariant-loop-i
invariant-loop-i l = (l.from ≤ l.i) × (l.i - l.from ≤ l.to - l.from) × Wrote l.initial.out l.at (pieces l.rt (stored l.lay l.s) l.from (l.i - l.from)) l.next l.out

abbrev pub decreases-loop-i : goal.decreases-loop-i
decreases-loop-i l = l.to - l.i
