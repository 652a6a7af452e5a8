-- `load::met` meets its contract: the loop carries how many the entries passed meet.
use Prim.Native.Nat.{◌-◌, ◌≤◌}
use mathlib.Core.Path.{◌≡◌}
use lib.ListN.{get_or}
use Rattle.layout.specs.Layout.{stored}
use Rattle.load.specs.inner.Beside.{met}
use Rattle.load.proofs.met.Given as goal

abbrev pub invariant-loop-i : goal.invariant-loop-i
invariant-loop-i l = (l.i ≤ l.n) × (l.j ≡ met (stored l.lay l.s) l.list l.i) × (l.next ≡ get_or l.list l.j 0)

abbrev pub decreases-loop-i : goal.decreases-loop-i
decreases-loop-i l = l.n - l.i
