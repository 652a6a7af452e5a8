-- `sheet::all_follow` meets its contract: the loop carries what the entries before the index show, and what the last of them leaves for the next.
use Prim.Native.Nat.{◌≤◌, ◌-◌}
use mathlib.Core.Path.{◌≡◌}
use lib.Dec.{eqb}
use Rattle.layout.specs.declared.Layout.TheVariants.{Columns}
use Rattle.layout.specs.Layout.{stored}
use Rattle.sheet.specs.Check.{number_before, end_before_entry}
use Rattle.sheet.specs.inner.Glance.{every, ascends, meets}
use Rattle.sheet.proofs.all_follow.Given as goal

abbrev pub invariant-loop-i : goal.invariant-loop-i
invariant-loop-i l = (l.i ≤ l.n) × (l.lates ≤ l.i) × (eqb l.lates 0 ≡ every (ascends (stored Columns l.s)) l.i) × (eqb l.apart 0 ≡ every (meets (stored Columns l.s)) l.i) × (l.last.0 ≡ number_before (stored Columns l.s) l.i) × (l.end ≡ end_before_entry (stored Columns l.s) l.i)

abbrev pub decreases-loop-i : goal.decreases-loop-i
decreases-loop-i l = l.n - l.i
