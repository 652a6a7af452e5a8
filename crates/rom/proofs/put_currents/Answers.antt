-- `rom::put_currents` meets its contract: the loop carries what was written and what is left; a full buffer takes no more.
use native.Mathlib.Omega.{arith}
use Rattle.lent.proofs.Laws.{kept}
use Rattle.rom.proofs.Runs.{copied_start, copied_more, copied_full, copied_end, turn, run_further}
use Rattle.rom.proofs.put_currents.Goals as goal

pub loop-place-init : goal.loop-place-init
loop-place-init c = copied_start _ _ _ _ _ c.first_with-place.ensures.0

pub shape_of-out-then-out-next : goal.shape_of-out-then-out-next
shape_of-out-then-out-next c = kept c.loop-place.invariant.wrote

pub returns-then-out-next : goal.returns-then-out-next
returns-then-out-next c = copied_full c.loop-place.invariant c.if-out-next.true

pub overflow_sub-end : goal.overflow_sub-end
overflow_sub-end c = let l = c.loop-place-test.true in
    omega (arith, run_further _ _ _ l (c.loop-place.invariant.stands l) c.first_with-end.ensures.0)

pub loop-place-smaller : goal.loop-place-smaller
loop-place-smaller c = let b = c in
    let l = b.loop-place-test.true in
    let t = turn _ _ _ _ l (b.loop-place.invariant.stands l) b.first_with-end.ensures.0 c.first_with-place-in-loop-place.ensures.0 in
    omega (arith, l, t.further, t.onward)

pub loop-place-preserved : goal.loop-place-preserved
loop-place-preserved c = let b = c in
    copied_more _ _ _ _ _ b.loop-place.invariant b.loop-place-test.true b.first_with-end.ensures.0 c.first_with-place-in-loop-place.ensures.0 c.part.ensures.holds
    c.copy-next.ensures

pub shape_of-out : goal.shape_of-out
shape_of-out c = kept c.loop-place.invariant.wrote

pub returns : goal.returns
returns c = copied_end c.loop-place.invariant c.loop-place-test.false
