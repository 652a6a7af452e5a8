-- `responder::pieces_in` meets its contract: the loop adds up the entries passed.
use mathlib.Core.Path.{◌∙◌}
use native.Mathlib.Omega.{arith}
use Rattle.layout.specs.Layout.{stored}
use Rattle.responder.proofs.Laws.{summed_start, summed_more, summed_end, found_size_law}
use Rattle.responder.proofs.pieces_in.Goals as goal

pub loop-i-init : goal.loop-i-init
loop-i-init c = summed_start _ _ _ _

pub find-entry-requires : goal.find-entry-requires
find-entry-requires c = let p = c.requires in (p.0, omega (arith, p.1))

pub loop-i-preserved : goal.loop-i-preserved
loop-i-preserved c = let a = c.args in
    let e = c.found_size-size.ensures.0 ∙ found_size_law a.rt (stored a.lay a.s.now) c.loop-i.i c.find-entry.result c.find-entry.ensures in
    summed_more _ _ _ _ c.loop-i.invariant c.loop-i-test.true e c.found_size-size.ensures.1

pub returns : goal.returns
returns c = summed_end _ _ _ _ c.loop-i.invariant c.loop-i-test.false
