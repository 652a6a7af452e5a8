-- `mend::fix_all` meets its contract: the loop carries what was put so far and what is left.
use mathlib.Core.Path.{refl, ◌∙◌}
use native.Mathlib.Omega.{arith}
use Rattle.lent.proofs.Laws.{kept}
use Rattle.reading.proofs.Places.{from_less}
use Rattle.reading.proofs.Loops.{four_in}
use Rattle.mend.proofs.Fixing.{fixes_length}
use Rattle.mend.proofs.Walking.{putting_start, putting_stands, putting_more, putting_end}
use Rattle.mend.proofs.fix_all.Goals as goal

pub loop-at-init : goal.loop-at-init
loop-at-init c = (putting_start _ _ _ _ c.requires.0, refl, refl)

pub overflow_add-at : goal.overflow_add-at
overflow_add-at c = omega (arith, c.loop-at.invariant.0.here.inside)

pub fix_at-n-requires : goal.fix_at-n-requires
fix_at-n-requires c = let x = c.requires in
    putting_stands _ _ _ _ x.0 x.1 c.loop-at.invariant.0 c.loop-at-test.true

pub loop-at-smaller : goal.loop-at-smaller
loop-at-smaller c = from_less _ _ _ (four_in _ _ c.loop-at-test.true) c.next_at-at.ensures

pub loop-at-preserved : goal.loop-at-preserved
loop-at-preserved c = let early = c in
    let x = early.requires in
    let i = early.loop-at.invariant in
    let w = c.fix_at-n.ensures in (
      putting_more _ _ _ _ x.0 x.1 i.0 c.loop-at-test.true w c.next_at-at.ensures,
      fixes_length w ∙ i.1,
      kept w.list ∙ i.2,
    )

pub shape_of-copy : goal.shape_of-copy
shape_of-copy c = c.loop-at.invariant.1

pub shape_of-list : goal.shape_of-list
shape_of-list c = c.loop-at.invariant.2

pub returns : goal.returns
returns c = let x = c.requires in
    putting_end _ _ _ _ x.0 x.1 c.loop-at.invariant.0 c.loop-at-test.false
