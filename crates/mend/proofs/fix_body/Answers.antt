-- `mend::fix_body` meets its contract: the loop carries what the first bytes did.
use mathlib.Core.Path.{refl, ◌∙◌}
use native.Mathlib.Omega.{arith}
use Rattle.lent.proofs.Laws.{kept}
use Rattle.mend.proofs.Fixing.{put_start, put_more, put_end, fixes_length}
use Rattle.mend.proofs.fix_body.Goals as goal

pub loop-k-init : goal.loop-k-init
loop-k-init c = (put_start _ _ _ _ _ _, refl, refl)

pub overflow_add-place : goal.overflow_add-place
overflow_add-place c = omega (arith, c.requires.1, c.loop-k-test.true)

pub fix-next-requires : goal.fix-next-requires
fix-next-requires c = let x = c.requires in
    let k = c.loop-k-test.true in
    (omega (arith, x.0, k, c.loop-k.invariant.1), omega (arith, x.1, k))

pub loop-k-preserved : goal.loop-k-preserved
loop-k-preserved c = let early = c in
    let i = early.loop-k.invariant in
    let w = c.fix-next.ensures in (
      put_more _ _ _ _ _ _ _ early.requires.0 i.0 early.loop-k-test.true c.byte_mended.ensures w,
      fixes_length w ∙ i.1,
      kept w.list ∙ i.2,
    )

pub shape_of-copy : goal.shape_of-copy
shape_of-copy c = c.loop-k.invariant.1

pub shape_of-list : goal.shape_of-list
shape_of-list c = c.loop-k.invariant.2

pub returns : goal.returns
returns c = put_end _ _ _ _ _ _ c.loop-k.invariant.0 c.loop-k-test.false
