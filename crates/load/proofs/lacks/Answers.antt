-- `load::lacks` meets its contract: the loop carries what is left of the search.
use mathlib.Core.Path.{refl, sym, ap, ◌∙◌}
use mathlib.Core.Bool.{not}
use Rattle.std.proofs.lemmas.Bool.{not_from_true, not_from_false}
use Rattle.load.proofs.Numbers.{some_found, some_more, some_over}
use Rattle.load.proofs.lacks.Goals as goal

pub loop-i-init : goal.loop-i-init
loop-i-init c = refl

pub returns-then-not-has : goal.returns-then-not-has
returns-then-not-has c = some_found _ _ _ _ c.loop-i.invariant c.loop-i-test.true (ap not (sym c.has.ensures) ∙ (not_from_false _ c.if-not-has.true))

pub loop-i-preserved : goal.loop-i-preserved
loop-i-preserved c = some_more _ _ _ _ c.loop-i.invariant c.loop-i-test.true (ap not (sym c.has.ensures) ∙ (not_from_true _ c.if-not-has.false))

pub returns : goal.returns
returns c = some_over _ _ _ _ c.loop-i.invariant c.loop-i-test.false
