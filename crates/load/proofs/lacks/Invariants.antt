-- `load::lacks` meets its contract: the loop carries what is left of the search.
use Prim.Native.Nat.{ℕ, ◌-◌, ◌/◌}
use mathlib.Core.Path.{◌≡◌}
use mathlib.Core.Bool.{not}
use lib.ListN.{length, drop}
use Rattle.base.specs.Pick.{some}
use Rattle.profiles.specs.Profiles.{lists}
use Rattle.load.proofs.lacks.Given as goal

abbrev pub invariant-loop-i : goal.invariant-loop-i
invariant-loop-i l = some (λ (m : ℕ). not (lists m l.b 0 (length l.b / 4))) l.list ≡ some (λ (m : ℕ). not (lists m l.b 0 (length l.b / 4))) (drop l.i l.list)

abbrev pub decreases-loop-i : goal.decreases-loop-i
decreases-loop-i l = length l.list - l.i
