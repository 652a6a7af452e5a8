-- `checks::rules::profiles_fault` meets its contract: the loop carries what is left of the search.
use Prim.Native.Nat.{◌≤◌, ◌-◌}
use mathlib.Core.Path.{◌≡◌}
use Rattle.refusal.specs.First.{first_of}
use Rattle.refusal.proofs.First.{rest}
use Rattle.checks.specs.Rules.{profile_at}
use Rattle.checks.proofs.rules.profiles_fault.Given as goal

abbrev pub invariant-loop-i : goal.invariant-loop-i
invariant-loop-i l = (l.i ≤ l.n) × (first_of (profile_at l.body) 0 l.n ≡ rest (profile_at l.body) l.n l.i)

abbrev pub decreases-loop-i : goal.decreases-loop-i
decreases-loop-i l = l.n - l.i
