-- `needs::walk::lowest_in` meets its contract: the loop carries what is left of the walk over lines and descriptors.
use native.Mathlib.Omega.{arith}
use Rattle.needs.specs.Judge.{lowest_in}
use Rattle.needs.proofs.Resumed.{left_start, left_found, left_next, left_end}
use Rattle.needs.proofs.walk.lowest_in.Goals as goal

pub loop-i-init : goal.loop-i-init
loop-i-init c = let x = c in left_start _ _ _ (λ i. omega (arith, c.type_inv.s i)) x.requires.0 x.requires.1

pub loop-i-preserved : goal.loop-i-preserved
loop-i-preserved c = search left_next

pub returns-in-Stop : goal.returns-in-Stop
unfolding lowest_in
returns-in-Stop c = search left_found

pub returns : goal.returns
unfolding lowest_in
returns c = search left_end
