-- `sense::kind_of` meets its contract: the loop carries what is left of the walk over the table.
use borrow.Author.Rules.{rules}
use borrow.Author.Tests.{eq-eqb, ne_eqb}
use mathlib.Core.Path.{refl}
use native.Mathlib.Omega.{arith}
use Rattle.base.proofs.Pick.{pick_found, pick_next, pick_none}
use Rattle.sense.specs.Sense.{given, kind_of}
use Rattle.sense.proofs.kind_of.Goals as goal

pub loop-i-init : goal.loop-i-init
unfolding given kind_of
loop-i-init c = (omega arith, refl)

pub line_at-line-requires : goal.line_at-line-requires
unfolding given kind_of
line_at-line-requires c = search rules

pub returns-then-line-number : goal.returns-then-line-number
unfolding given kind_of
returns-then-line-number c = search (pick_found, eq-eqb)

pub overflow_add-i : goal.overflow_add-i
unfolding given kind_of
overflow_add-i c = search rules

pub loop-i-smaller : goal.loop-i-smaller
unfolding given kind_of
loop-i-smaller c = search rules

pub loop-i-preserved : goal.loop-i-preserved
unfolding given kind_of
loop-i-preserved c = (search rules, search (pick_next, ne_eqb))

pub returns : goal.returns
unfolding given kind_of
returns c = search pick_none
