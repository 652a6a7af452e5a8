-- `responder::put_rest` meets its contract: the loop has written the entries passed; a full buffer takes no more.
use mathlib.Core.Path.{◌≡◌}
use Prim.Native.Nat.{◌-◌}
use native.Mathlib.Omega.{arith}
use Rattle.lent.proofs.Laws.{nothing, then, kept}
use Rattle.layout.specs.Layout.{stored}
use Rattle.responder.proofs.Laws.{pieces_start, pieces_more, full_stop}
use Rattle.responder.proofs.put_rest.Goals as goal

pub loop-i-init : goal.loop-i-init
loop-i-init c = (omega arith, omega arith, rw pieces_start (nothing c.args.out.now c.args.at))

pub shape_of-out-then-out-next : goal.shape_of-out-then-out-next
shape_of-out-then-out-next c = kept c.loop-i.invariant.2

pub returns-then-out-next : goal.returns-then-out-next
returns-then-out-next c = let a = c.args in full_stop a.rt (stored a.lay a.s.now) a.from a.to c.loop-i.i c.loop-i.invariant.2 c.if-out-next.true (omega arith) c.loop-i.invariant.0

pub loop-i-preserved : goal.loop-i-preserved
loop-i-preserved c = let a = c.args in
    (omega arith, omega arith, rw (pieces_more a.rt (stored a.lay a.s.now) a.from c.loop-i.i c.loop-i.invariant.0) (then c.loop-i.invariant.2 c.put_slowly-next.ensures))

pub shape_of-out : goal.shape_of-out
shape_of-out c = kept c.loop-i.invariant.2

pub returns : goal.returns
returns c = let a = c.args in
    let i = c.loop-i.i in
    let e : i - a.from ≡ a.to - a.from = omega arith in
    rw (← e) c.loop-i.invariant.2
