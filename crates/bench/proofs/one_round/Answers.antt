-- `bench::one_round` meets its contract: no room for another start, or the box is asked and the record takes the bytes sent.
use mathlib.Core.Path.{◌≡◌, sym, ◌∙◌}
use native.Mathlib.Omega.{arith}
use lib.ListN.{length}
use lib.Seq.{length-take-le}
use Rattle.base.specs.Lists.{Bytes}
use Rattle.layout.specs.Layout.{stored}
use Rattle.bench.specs.Bench.{buffers}
use Rattle.bench.proofs.Carried.{clean_cleared, taken_wanted}
use Rattle.bench.proofs.Loop.{asked_room, round_short, round_asked}
use borrow.Author.Rules.{rules}
use Rattle.bench.proofs.one_round.Goals as goal

pub returns-then-starts-at : goal.returns-then-starts-at
returns-then-starts-at c = round_short c.if-starts-at.true

pub slice_bounds-clear-end-2 : goal.slice_bounds-clear-end-2
slice_bounds-clear-end-2 c = let o = c in sym (length-take-le o.args.dirty o.args.response.now o.requires.3.within)

pub slice_bounds-take-end : goal.slice_bounds-take-end
slice_bounds-take-end c = let early = c in
    let o = early in
    let a = o.args in
    let bytes : Bytes a.s.now = λ i. omega (arith, early.type_inv.s i) in
    asked_room (stored a.lay a.s.now) bytes o.requires.0 a.w.rt a.w.next.0 a.w.allocation a.response.now o.requires.1 (clean_cleared o.requires.3 c.clear.ensures) o.requires.4 (o.requires.2 ∙ taken_wanted (stored a.lay a.s.now) bytes o.requires.0 a.w) c.send_sized-reply.ensures

pub slice_bounds-take-end-2 : goal.slice_bounds-take-end-2
slice_bounds-take-end-2 c = let early = c in
    let o = early in
    let a = o.args in
    let bytes : Bytes a.s.now = λ i. omega (arith, early.type_inv.s i) in
    sym (length-take-le c.send_sized-reply.result.count c.send_sized-reply.new.out (asked_room (stored a.lay a.s.now) bytes o.requires.0 a.w.rt a.w.next.0 a.w.allocation a.response.now o.requires.1 (clean_cleared o.requires.3 c.clear.ensures) o.requires.4 (o.requires.2 ∙ taken_wanted (stored a.lay a.s.now) bytes o.requires.0 a.w) c.send_sized-reply.ensures))

pub returns : goal.returns
returns c = let early = c in
    let origin = early in
    let o = origin in
    let a = o.args in
    let bytes : Bytes a.s.now = λ i. omega (arith, origin.type_inv.s i) in
    let l : length c.take.new.out ≡ length a.collected.now = search rules in
    round_asked (stored a.lay a.s.now) a.w (buffers a.response.now a.collected.now a.starts.now) bytes o.requires.0 o.requires.1 origin.if-starts-at.false early.note.ensures (clean_cleared o.requires.3 early.clear.ensures) o.requires.4 (o.requires.2 ∙ taken_wanted (stored a.lay a.s.now) bytes o.requires.0 a.w) c.send_sized-reply.ensures c.take.ensures l
