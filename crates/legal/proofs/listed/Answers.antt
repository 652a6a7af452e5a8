-- `legal::listed` meets its contract: the loop carries what is left of the walk over the table.
use borrow.Author.Rules.{rules}
use borrow.Author.Tests.{eq-eqb, ne_eqb}
use mathlib.Core.Path.{refl}
use native.Mathlib.Omega.{arith}
use Rattle.legal.specs.Legal.{legal, other, row_of}
use Rattle.base.proofs.Pick.{pick_found, pick_next, pick_none}
use Rattle.legal.proofs.listed.Goals as goal

pub loop-i-init : goal.loop-i-init
unfolding row_of
loop-i-init c = (omega arith, refl)

pub offset_bounds-table-i : goal.offset_bounds-table-i
unfolding legal
offset_bounds-table-i c = search rules

pub bounds-table-i : goal.bounds-table-i
unfolding legal
bounds-table-i c = search rules

pub returns-then-row-f : goal.returns-then-row-f
unfolding legal row_of
returns-then-row-f c = pick_found _ _ other legal _ _ _ _ c.loop-i.invariant.1 c.loop-i-test.true refl
    (eq-eqb _ _ c.if-row-f.true) refl

pub overflow_add-i : goal.overflow_add-i
unfolding legal
overflow_add-i c = search rules

pub loop-i-smaller : goal.loop-i-smaller
unfolding legal
loop-i-smaller c = search rules

pub loop-i-preserved : goal.loop-i-preserved
unfolding legal row_of
loop-i-preserved c = (search rules, pick_next _ _ other legal _ _ _ c.loop-i.invariant.1 c.loop-i-test.true refl (ne_eqb _ _ c.if-row-f.false))

pub returns : goal.returns
unfolding legal row_of other
returns c = search pick_none
