-- `load::has` meets its contract: the loop carries what is left of the search.
use Prim.Native.Nat.{ℕ, ◌-◌}
use mathlib.Core.Path.{◌≡◌}
use lib.Dec.{eqb}
use lib.ListN.{length, drop}
use Rattle.base.specs.Pick.{some}
use Rattle.load.specs.Load.{is_in}
use Rattle.load.proofs.has.Given as goal

abbrev pub invariant-loop-i : goal.invariant-loop-i
invariant-loop-i l = is_in l.list l.profile.0 ≡ some (λ (m : ℕ). eqb m l.profile.0) (drop l.i l.list)

abbrev pub decreases-loop-i : goal.decreases-loop-i
decreases-loop-i l = length l.list - l.i
