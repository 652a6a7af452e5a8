-- `rom::currents_size` meets its contract: the loop carries what is counted and what is left.
use native.Mathlib.Omega.{arith}
use Rattle.rom.proofs.Runs.{counted_start, counted_more, counted_end, turn, run_further}
use Rattle.rom.proofs.currents_size.Goals as goal

pub loop-at-init : goal.loop-at-init
loop-at-init c = counted_start _ _ _ c.first_with-at.ensures.0

pub overflow_sub-size : goal.overflow_sub-size
overflow_sub-size c = let l = c.loop-at-test.true in
    omega (arith, run_further _ _ _ l (c.loop-at.invariant.stands l) c.first_with-end.ensures.0)

pub overflow_add-size : goal.overflow_add-size
overflow_add-size c = let i = c.loop-at.invariant in
    let l = c.loop-at-test.true in
    omega (arith, i.least, run_further _ _ _ l (i.stands l) c.first_with-end.ensures.0, c.first_with-end.ensures.1)

pub loop-at-smaller : goal.loop-at-smaller
loop-at-smaller c = let i = c.loop-at.invariant in
    let l = c.loop-at-test.true in
    let t = turn _ _ _ _ l (i.stands l) c.first_with-end.ensures.0 c.first_with-at-in-loop-at.ensures.0 in
    omega (arith, l, t.further, t.onward)

pub loop-at-preserved : goal.loop-at-preserved
loop-at-preserved c = counted_more _ _ _ c.loop-at.invariant c.loop-at-test.true c.first_with-end.ensures.0 c.first_with-at-in-loop-at.ensures.0

pub returns : goal.returns
returns c = counted_end _ c.loop-at.invariant c.loop-at-test.false
