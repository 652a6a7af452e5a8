-- `mend::fix_body` meets its contract: the loop carries what the first bytes did.
use Prim.Native.Nat.{◌-◌}
use mathlib.Core.Path.{◌≡◌}
use lib.ListN.{length}
use Rattle.mend.proofs.Fixing.{Put}
use Rattle.mend.proofs.fix_body.Given as goal

abbrev pub invariant-loop-k : goal.invariant-loop-k
invariant-loop-k l = Put l.plan l.body l.initial.copy l.initial.list l.n l.place l.copy l.list l.next l.k × (length l.copy ≡ length l.initial.copy) × (length l.list ≡ length l.initial.list)

abbrev pub decreases-loop-k : goal.decreases-loop-k
decreases-loop-k l = length l.body - l.k
