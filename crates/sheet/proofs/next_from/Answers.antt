-- `sheet::next_from` meets its contract: the loop carries what is left of the walk, and bisection follows.
use mathlib.Core.Path.{refl, sym, ◌∙◌}
use native.Mathlib.Omega.{arith}
use Rattle.sheet.specs.inner.Search.{next_from}
use Rattle.sheet.proofs.Passing.{passing_more, passing_stop, passing_done, passing_none}
use Rattle.sheet.proofs.next_from.Goals as goal

pub loop-left-init : goal.loop-left-init
unfolding next_from
loop-left-init c = refl

pub returns-then-n-i : goal.returns-then-n-i
returns-then-n-i c = sym (c.loop-left.invariant ∙ passing_done _ _ _ _ _ c.loop-left-test.true c.if-n-i.true)

pub returns-then-sfn-feature : goal.returns-then-sfn-feature
returns-then-sfn-feature c = sym (c.loop-left.invariant ∙ passing_stop _ _ _ _ _ c.loop-left-test.true c.if-n-i.false (omega (arith, c.feature_at-feature.ensures, c.if-sfn-feature.true)))

pub loop-left-preserved : goal.loop-left-preserved
loop-left-preserved c = c.loop-left.invariant ∙ passing_more _ _ _ _ _ c.loop-left-test.true c.if-n-i.false (omega (arith, c.feature_at-feature.ensures, c.if-sfn-feature.false))

pub returns : goal.returns
returns c = c.closed.ensures ∙ sym (c.loop-left.invariant ∙ passing_none _ _ _ _ _ c.loop-left-test.false)
