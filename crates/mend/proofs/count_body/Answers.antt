-- `mend::count_body` meets its contract: the loop counts the changes of the first bytes.
use native.Mathlib.Omega.{arith}
use Rattle.mend.proofs.Fixing.{counted_start, counted_more, counted_end}
use Rattle.mend.proofs.count_body.Goals as goal

pub loop-k-init : goal.loop-k-init
loop-k-init c = counted_start _ _

pub overflow_add-count : goal.overflow_add-count
overflow_add-count c = omega (arith, c.loop-k.invariant.few, c.differs-count.ensures.1)

pub loop-k-preserved : goal.loop-k-preserved
loop-k-preserved c = counted_more _ _ _ _ c.loop-k.invariant c.loop-k-test.true c.byte_mended.ensures c.differs-count.ensures

pub returns : goal.returns
returns c = counted_end _ _ c.loop-k.invariant c.loop-k-test.false
