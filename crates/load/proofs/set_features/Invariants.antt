-- `load::set_features` meets its contract: the loop carries how many the entries passed meet, and their flags are set.
use Prim.Native.Nat.{◌-◌, ◌≤◌}
use mathlib.Core.Path.{◌≡◌}
use lib.ListN.{get_or}
use Rattle.layout.specs.Layout.{stored, flags_place}
use Rattle.load.specs.inner.Beside.{met, flags_met}
use Rattle.load.specs.inner.Patch.{patched}
use Rattle.load.proofs.set_features.Given as goal

abbrev pub invariant-loop-i : goal.invariant-loop-i
invariant-loop-i l = (l.i ≤ l.n) × (l.j ≡ met (stored l.lay l.s) l.list l.i) × (l.next ≡ get_or l.list l.j 0) × (l.out ≡ patched (flags_place l.lay l.n) (flags_met (stored l.lay l.s) l.list) l.i l.initial.out)

abbrev pub decreases-loop-i : goal.decreases-loop-i
decreases-loop-i l = l.n - l.i
