-- `rom::send` meets its contract: the place and the size give the bytes and the limit, and the part of the buffer up to it is lent to the writers.
use mathlib.Core.Path.{sym}
use lib.Seq.{length-take-le}
use Rattle.rom.proofs.Sending.{requested_short, requested_sent}
use Rattle.rom.proofs.send.Goals as goal

pub returns-then-out-limit : goal.returns-then-out-limit
returns-then-out-limit c = let b = c in
    let a = b.args in
    requested_short a.image.now a.rt a.sfn.0 a.a a.out.now _ _ _ b.first_from-place.ensures b.wanted_size-size.ensures.0 b.due-limit.ensures _ c.if-out-limit.true c.refused.ensures

pub slice_bounds-put_response-end-2 : goal.slice_bounds-put_response-end-2
slice_bounds-put_response-end-2 c = sym (length-take-le c.due-limit.result c.args.out.now c.if-out-limit.false)

pub returns : goal.returns
returns c = let b = c in
    let a = b.args in
    requested_sent a.image.now a.rt a.sfn.0 a.a a.out.now _ _ _ b.first_from-place.ensures b.wanted_size-size.ensures.0 b.due-limit.ensures _ _ _
    c.if-out-limit.false c.put_response-count.ensures c.written.ensures
