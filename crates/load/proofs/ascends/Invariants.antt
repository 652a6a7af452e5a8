-- `load::ascends` meets its contract: the loop carries what is left of the list, from the number before on.
use Prim.Native.Nat.{◌-◌, ◌≤◌}
use mathlib.Core.Path.{◌≡◌}
use lib.ListN.{length, drop}
use Rattle.load.specs.Load.{ascends}
use Rattle.load.proofs.ascends.Given as goal

abbrev pub invariant-loop-i : goal.invariant-loop-i
invariant-loop-i l = (1 ≤ l.i) × (ascends l.list ≡ ascends (drop (l.i - 1) l.list))

abbrev pub decreases-loop-i : goal.decreases-loop-i
decreases-loop-i l = length l.list - l.i
