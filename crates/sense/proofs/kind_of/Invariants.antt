-- `sense::kind_of` meets its contract: the loop carries what is left of the walk over the table.
use Prim.Native.Nat.{◌≤◌, ◌-◌}
use mathlib.Core.Path.{◌≡◌}
use lib.Dec.{eqb}
use lib.ListN.{length}
use Rattle.base.proofs.Pick.{left}
use Rattle.refusal.specs.First.{refuse}
use Rattle.sense.specs.Sense.{given, heard, kind_of}
use Rattle.sense.specs.declared.Sense.TheVariants.{Means, Refused}
use Rattle.sense.proofs.kind_of.Given as goal

abbrev pub invariant-loop-i : goal.invariant-loop-i
invariant-loop-i l = (l.i ≤ length given) × (kind_of l.number ≡ left (λ v. eqb v.0 l.number) (λ v. heard (Means v.1)) (heard (Refused (refuse 54))) given l.i)

abbrev pub decreases-loop-i : goal.decreases-loop-i
decreases-loop-i l = length given - l.i
