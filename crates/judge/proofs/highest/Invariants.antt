-- `judge::highest` meets its contract: the loop carries what is left of the list and the highest so far.
use mathlib.Core.Path.{◌≡◌}
use Prim.Native.Nat.{◌≤◌, ◌-◌}
use Rattle.base.specs.Lists.{each}
use Rattle.profiles.specs.Profiles.{listed, profiles_of}
use Rattle.judge.specs.Boxes.{highest}
use Rattle.judge.proofs.highest.Given as goal

abbrev pub invariant-loop-i : goal.invariant-loop-i
invariant-loop-i l = (l.i ≤ l.n) × (highest l.every (profiles_of l.b) 0 ≡ highest l.every (each (listed l.b) l.i (l.n - l.i)) l.high)

abbrev pub decreases-loop-i : goal.decreases-loop-i
decreases-loop-i l = l.n - l.i
