-- `mend::count_body` meets its contract: the loop counts the changes of the first bytes.
use Prim.Native.Nat.{◌-◌}
use lib.ListN.{length}
use Rattle.mend.proofs.Fixing.{Counted}
use Rattle.mend.proofs.count_body.Given as goal

abbrev pub invariant-loop-k : goal.invariant-loop-k
invariant-loop-k l = Counted l.plan l.body l.count l.k

abbrev pub decreases-loop-k : goal.decreases-loop-k
decreases-loop-k l = length l.body - l.k
