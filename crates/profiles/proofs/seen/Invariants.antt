-- `profiles::seen` meets its contract: the loop carries what was found and what is left of the search.
use Prim.Native.Nat.{◌≤◌, ◌+◌, ◌-◌, ◌*◌, ◌/◌, ◌%◌}
use mathlib.Core.Bool.{◌||◌}
use mathlib.Core.Path.{◌≡◌}
use Rattle.profiles.specs.Profiles.{lists}
use Rattle.profiles.proofs.seen.Given as goal

abbrev pub invariant-loop-i : goal.invariant-loop-i
invariant-loop-i l = (l.i ≤ l.n) × (lists (l.wanted % 256 * 256 + l.wanted / 256) l.b 0 l.n ≡ (l.found || lists (l.wanted % 256 * 256 + l.wanted / 256) l.b l.i (l.n - l.i)))

abbrev pub decreases-loop-i : goal.decreases-loop-i
decreases-loop-i l = l.n - l.i
