-- `mend::fix_all` meets its contract: the loop carries what was put so far and what is left.
use Prim.Native.Nat.{◌-◌}
use mathlib.Core.Path.{◌≡◌}
use lib.ListN.{length}
use Rattle.mend.proofs.Walking.{Putting}
use Rattle.mend.proofs.fix_all.Given as goal

abbrev pub invariant-loop-at : goal.invariant-loop-at
invariant-loop-at l = Putting l.removable l.s l.initial.copy l.initial.list l.copy l.list l.n l.at × (length l.copy ≡ length l.initial.copy) × (length l.list ≡ length l.initial.list)

abbrev pub decreases-loop-at : goal.decreases-loop-at
decreases-loop-at l = length l.s - l.at
