-- `responder::send_sized` meets its contract: the number told gives the limit, and the part of the buffer up to it is lent to the writers.
use mathlib.Core.Path.{sym}
use lib.Seq.{length-take-le}
use Rattle.layout.specs.Layout.{stored}
use Rattle.responder.proofs.Sized.{sized_short, sized_sent}
use Rattle.responder.proofs.send_sized.Goals as goal

pub returns-then-out-cut : goal.returns-then-out-cut
returns-then-out-cut c = let a = c.args in
    sized_short (stored a.lay a.s.now) a.rt a.sfn.0 a.a a.from a.size a.out.now _ c.due-cut.ensures c.if-out-cut.true _ c.refused.ensures

pub slice_bounds-put_full-end-2 : goal.slice_bounds-put_full-end-2
slice_bounds-put_full-end-2 c = sym (length-take-le c.due-cut.result c.args.out.now c.if-out-cut.false)

pub returns : goal.returns
returns c = let a = c.args in
    sized_sent (stored a.lay a.s.now) a.rt a.sfn.0 a.a a.from a.size a.out.now _ c.due-cut.ensures
    c.taken-told.result c.put_full-count.result c.put_full-count.new.out c.written.result c.taken-told.ensures c.if-out-cut.false c.put_full-count.ensures c.written.ensures
