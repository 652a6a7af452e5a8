-- `load::has` meets its contract: the loop carries what is left of the search.
use mathlib.Core.Path.{refl}
use borrow.Author.Tests.{eq-eqb, ne_eqb}
use Rattle.load.specs.Load.{is_in}
use Rattle.load.proofs.Numbers.{some_found, some_more, some_over}
use Rattle.load.proofs.has.Goals as goal

pub loop-i-init : goal.loop-i-init
unfolding is_in
loop-i-init c = refl

pub returns-then-list-i : goal.returns-then-list-i
returns-then-list-i c = some_found _ _ _ _ c.loop-i.invariant c.loop-i-test.true (eq-eqb _ _ c.if-list-i.true)

pub loop-i-preserved : goal.loop-i-preserved
loop-i-preserved c = some_more _ _ _ _ c.loop-i.invariant c.loop-i-test.true (ne_eqb _ _ c.if-list-i.false)

pub returns : goal.returns
returns c = some_over _ _ _ _ c.loop-i.invariant c.loop-i-test.false
