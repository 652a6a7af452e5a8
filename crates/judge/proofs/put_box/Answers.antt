-- `judge::put_box` meets its contract: what the box of the sheet sends, with the header put over its own.
use mathlib.Core.Path.{refl, sym}
use lib.Seq.{length-take-le}
use Rattle.layout.specs.Layout.{stored}
use Rattle.judge.proofs.Boxes.{sent_inside, stated}
use Rattle.judge.proofs.put_box.Goals as goal

pub slice_bounds-put_front-end : goal.slice_bounds-put_front-end
slice_bounds-put_front-end c = let o = c in
    let a = o.args in
    sent_inside (stored a.lay a.s.now) (λ i. (c.type_inv.s i).fits) o.requires.0 a.b.rt a.b.sfn.0 a.a a.scratch.now o.requires.1 _ _ c.send-made.ensures

pub slice_bounds-put_front-end-2 : goal.slice_bounds-put_front-end-2
slice_bounds-put_front-end-2 c = let o = c in
    let a = o.args in
    sym (length-take-le _ _ (sent_inside (stored a.lay a.s.now) (λ i. (c.type_inv.s i).fits) o.requires.0 a.b.rt a.b.sfn.0 a.a a.scratch.now o.requires.1 _ _ c.send-made.ensures))

pub returns : goal.returns
returns c = let o = c in
    let a = o.args in
    stated (stored a.lay a.s.now) (λ i. (c.type_inv.s i).fits) o.requires.0 a.b.rt a.b.sfn.0 a.a a.scratch.now o.requires.1 _ _ c.send-made.ensures a.b refl refl _ _ c.put_front.ensures
