-- `judge::explained` meets its contract: the loop carries what is left of the search, and the buffer keeps its length.
use mathlib.Core.Path.{refl, ◌∙◌}
use Prim.Native.Nat.{◌≤◌, ◌<◌}
use native.Mathlib.Omega.{arith}
use Rattle.layout.specs.Layout.{stored}
use Rattle.sheet.specs.Meaning.{meaning}
use Rattle.judge.specs.Boxes.{mistakes}
use Rattle.judge.proofs.Search.{explained_start, explained_here, explained_next, explained_none}
use borrow.Author.Rules.{rules}
use Rattle.judge.proofs.explained.Goals as goal

pub loop-i-init : goal.loop-i-init
loop-i-init c = let a = c.args in
    (omega arith, refl, explained_start a.c.rt a.c.sfn.0 a.c.allocation (meaning (stored a.lay a.s.now)) a.response.now)

pub mistake_at-why-requires : goal.mistake_at-why-requires
unfolding mistakes
mistake_at-why-requires c = search rules

pub is_box-requires : goal.is_box-requires
is_box-requires c = (c.requires.0, omega (arith, c.requires.1, c.loop-i.invariant.1))

pub shape_of-scratch-then-is_box : goal.shape_of-scratch-then-is_box
unfolding mistakes
shape_of-scratch-then-is_box c = c.is_box.ensures.0 ∙ c.loop-i.invariant.1

pub returns-then-is_box : goal.returns-then-is_box
returns-then-is_box c = let a = c.args in
    let h : c.loop-i.i < 7 = search rules in (
      c.is_box.ensures.0 ∙ c.loop-i.invariant.1,
      explained_here a.c.rt a.c.sfn.0 a.c.allocation (meaning (stored a.lay a.s.now)) a.response.now _ c.loop-i.invariant.2 _ _ h c.mistake_at-why.ensures c.is_box.ensures.1 c.if-is_box.true,
    )

pub overflow_add-i : goal.overflow_add-i
unfolding mistakes
overflow_add-i c = search rules

pub loop-i-smaller : goal.loop-i-smaller
unfolding mistakes
loop-i-smaller c = search rules

pub loop-i-preserved : goal.loop-i-preserved
loop-i-preserved c = let a = c.args in
    let h : c.loop-i.i < 7 = search rules in (
      omega (arith, h),
      c.is_box.ensures.0 ∙ c.loop-i.invariant.1,
      explained_next a.c.rt a.c.sfn.0 a.c.allocation (meaning (stored a.lay a.s.now)) a.response.now _ c.loop-i.invariant.2 _ _ h c.mistake_at-why.ensures c.is_box.ensures.1 c.if-is_box.false,
    )

pub shape_of-scratch : goal.shape_of-scratch
unfolding mistakes
shape_of-scratch c = c.loop-i.invariant.1

pub returns : goal.returns
returns c = let a = c.args in
    let h : 7 ≤ c.loop-i.i = search rules in
    (c.loop-i.invariant.1, explained_none a.c.rt a.c.sfn.0 a.c.allocation (meaning (stored a.lay a.s.now)) a.response.now _ c.loop-i.invariant.2 h)
