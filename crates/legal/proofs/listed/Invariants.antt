-- `legal::listed` meets its contract: the loop carries what is left of the walk over the table.
use Prim.Native.Nat.{◌≤◌, ◌-◌}
use mathlib.Core.Path.{◌≡◌}
use lib.Dec.{eqb}
use lib.ListN.{length}
use Rattle.legal.specs.Legal.{legal, other, row_of}
use Rattle.base.proofs.Pick.{left}
use Rattle.legal.proofs.listed.Given as goal

abbrev pub invariant-loop-i : goal.invariant-loop-i
invariant-loop-i l = (l.i ≤ length legal) × (row_of l.f.0 ≡ left (λ r. eqb r.0.0 l.f.0) (λ r. r) other legal l.i)

abbrev pub decreases-loop-i : goal.decreases-loop-i
decreases-loop-i l = length legal - l.i
