-- `needs::one::line_in` meets its contract: the loop carries what is left of the walk over the lines.
use Prim.Native.Nat.{◌≤◌, ◌-◌}
use mathlib.Core.Path.{◌≡◌}
use lib.ListN.{length}
use Rattle.needs.specs.inner.Table.{lines_in}
use Rattle.needs.specs.inner.Alone.{line_in}
use Rattle.needs.proofs.Alone.{line_from}
use Rattle.needs.proofs.one.line_in.Given as goal

abbrev pub invariant-loop-i : goal.invariant-loop-i
invariant-loop-i l = (l.i ≤ length l.rows) × (line_in l.mark l.feature.0 (lines_in l.rows) ≡ line_from l.rows l.mark l.feature.0 l.i (length l.rows - l.i))

abbrev pub decreases-loop-i : goal.decreases-loop-i
decreases-loop-i l = length l.rows - l.i
