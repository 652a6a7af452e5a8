-- `mend::count_all` meets its contract: the loop carries the count so far and what is left.
use native.Mathlib.Omega.{arith}
use Rattle.reading.proofs.Places.{from_less}
use Rattle.reading.proofs.Loops.{four_in}
use Rattle.mend.proofs.Walking.{counts_start, counts_whole, counts_more, counts_end}
use Rattle.mend.proofs.count_all.Goals as goal

pub loop-at-init : goal.loop-at-init
loop-at-init c = search counts_start

pub overflow_add-at : goal.overflow_add-at
overflow_add-at c = omega (arith, c.loop-at.invariant.here.inside)

pub count_at-count-requires : goal.count_at-count-requires
count_at-count-requires c = counts_whole _ _ c.loop-at.invariant c.loop-at-test.true

pub overflow_add-count : goal.overflow_add-count
overflow_add-count c = omega (arith, c.loop-at.invariant.few, c.count_at-count.ensures.1, counts_whole _ _ c.loop-at.invariant c.loop-at-test.true)

pub loop-at-smaller : goal.loop-at-smaller
loop-at-smaller c = search (from_less, four_in)

pub loop-at-preserved : goal.loop-at-preserved
loop-at-preserved c = counts_more _ _ c.loop-at.invariant c.loop-at-test.true c.count_at-count.ensures c.next_at-at.ensures

pub returns : goal.returns
returns c = counts_end _ _ c.loop-at.invariant c.loop-at-test.false
