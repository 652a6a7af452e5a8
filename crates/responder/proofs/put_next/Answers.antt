-- `responder::put_next` meets its contract: nothing where it stops, else the entry's piece.
use mathlib.Core.Path.{sym, ◌∙◌}
use native.Mathlib.Omega.{arith}
use Rattle.lent.proofs.Laws.{nothing}
use Rattle.layout.specs.Layout.{stored}
use Rattle.layout.proofs.Heads.{found_inside}
use Rattle.responder.specs.inner.Index.{going}
use Rattle.responder.proofs.Laws.{found_none, found_some}
use Rattle.responder.proofs.put_next.Goals as goal

pub returns-then-out-at : goal.returns-then-out-at
unfolding going
returns-then-out-at c = let a = c.args in nothing a.out.now a.at

pub inside4-body-requires : goal.inside4-body-requires
inside4-body-requires c = let a = c.args in
    let p = c.requires in
    rw c.find-entry.ensures (found_inside (stored a.lay a.s.now) a.i (omega (arith, p.0.0, p.1)) (omega (arith, p.0.0, p.0.1)))

pub returns-then-s-body : goal.returns-then-s-body
unfolding going
returns-then-s-body c = let a = c.args in nothing a.out.now a.at

pub returns-then-skipped : goal.returns-then-skipped
unfolding going
returns-then-skipped c = let a = c.args in
    rw (found_none a.rt (stored a.lay a.s.now) a.i _ c.find-entry.ensures (sym c.skipped.ensures ∙ c.if-skipped.true)) (nothing a.out.now a.at)

pub returns : goal.returns
unfolding going
returns c = let o = c in
    let a = o.args in
    let e = found_some a.rt (stored a.lay a.s.now) a.i _ o.find-entry.ensures _ o.inside4-body.ensures (sym o.skipped.ensures ∙ c.if-skipped.false) in
    rw (← e) c.put_whole-next.ensures
