-- `needs::table::column_in` meets its contract: the loop carries what is left of the walk over the columns.
use Prim.Native.Nat.{◌≤◌, ◌-◌}
use mathlib.Core.Path.{◌≡◌}
use lib.ListN.{length}
use Rattle.needs.specs.inner.Table.{column_in}
use Rattle.needs.proofs.Columns.{column_from}
use Rattle.needs.proofs.table.column_in.Given as goal

abbrev pub invariant-loop-i : goal.invariant-loop-i
invariant-loop-i l = (l.i ≤ length l.rows) × (column_in l.rows l.profile.0 ≡ column_from l.rows l.profile.0 l.i (length l.rows - l.i))

abbrev pub decreases-loop-i : goal.decreases-loop-i
decreases-loop-i l = length l.rows - l.i
