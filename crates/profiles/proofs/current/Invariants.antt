-- `profiles::current` meets its contract: the loop carries what is left of the search.
use Prim.Native.Nat.{◌≤◌, ◌-◌}
use mathlib.Core.Path.{◌≡◌}
use Rattle.base.specs.Lists.{each}
use Rattle.text.specs.Response.{current_profile}
use Rattle.profiles.specs.Profiles.{listed, profiles_of}
use Rattle.profiles.proofs.current.Given as goal

abbrev pub invariant-loop-i : goal.invariant-loop-i
invariant-loop-i l = (l.i ≤ l.n) × (current_profile (profiles_of l.b) ≡ current_profile (each (listed l.b) l.i (l.n - l.i)))

abbrev pub decreases-loop-i : goal.decreases-loop-i
decreases-loop-i l = l.n - l.i
