-- `profiles::fault` meets its contract: the loop carries what is left of the search.
use Prim.Native.Nat.{◌≤◌, ◌-◌}
use mathlib.Core.Path.{◌≡◌}
use Rattle.refusal.specs.First.{first_of}
use Rattle.refusal.proofs.First.{rest}
use Rattle.profiles.specs.inner.Within.{Within}
use Rattle.profiles.proofs.Stopped.{at}
use Rattle.profiles.proofs.fault.Given as goal

abbrev pub invariant-loop-i : goal.invariant-loop-i
invariant-loop-i l = (l.i ≤ l.n) × Within l.low.0 l.high.0 l.b l.i × (first_of (at l.b) 0 l.n ≡ rest (at l.b) l.n l.i)

abbrev pub decreases-loop-i : goal.decreases-loop-i
decreases-loop-i l = l.n - l.i
