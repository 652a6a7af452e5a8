-- `responder::put_rows` meets its contract: turn by turn as over any layout (Fitting.antt).
use native.Mathlib.Omega.{arith}
use Rattle.lent.proofs.Laws.{kept}
use Rattle.responder.proofs.Laws.{fewer_left}
use Rattle.responder.proofs.Fitting.{walked_none, walked_kept, walked_stop, walked_more}
use Rattle.responder.proofs.put_rows.Goals as goal

pub loop-i-init : goal.loop-i-init
loop-i-init c = walked_none _ _ _ _ _ _ c.requires.2

pub put_next-step-requires : goal.put_next-step-requires
put_next-step-requires c = let p = c.requires in (p.0, omega (arith, p.1), c.loop-i.invariant.1)

pub shape_of-out-then-step : goal.shape_of-out-then-step
shape_of-out-then-step c = walked_kept _ _ _ _ c.loop-i.invariant _ c.put_next-step.ensures

pub returns-then-step : goal.returns-then-step
returns-then-step c = walked_stop _ _ _ _ c.loop-i.invariant _ c.put_next-step.ensures c.if-step.true

pub loop-i-smaller : goal.loop-i-smaller
loop-i-smaller c = fewer_left c.loop-i-test.true

pub loop-i-preserved : goal.loop-i-preserved
loop-i-preserved c = walked_more _ _ _ _ c.loop-i.invariant _ c.put_next-step.ensures c.if-step.false c.loop-i-test.true

pub shape_of-out : goal.shape_of-out
shape_of-out c = kept c.loop-i.invariant.0.wrote

pub returns : goal.returns
returns c = c.loop-i.invariant.0
