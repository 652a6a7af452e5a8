-- `sweep::cut_rule` meets its contract: each early return is a case of the rule.
use Rattle.refusal.proofs.First.{tests}
use Rattle.sweep.specs.inner.Numbers.{cut_rule}
use Rattle.sweep.proofs.cut_rule.Goals as goal

pub returns-then-complete : goal.returns-then-complete
unfolding cut_rule
returns-then-complete c = search (tests, c.if-complete.true)

pub returns-then-count-eq0 : goal.returns-then-count-eq0
unfolding cut_rule
returns-then-count-eq0 c = search (tests, c.if-complete.false)

pub returns-then-last : goal.returns-then-last
unfolding cut_rule
returns-then-last c = search (tests, c.if-complete.false)

pub returns : goal.returns
unfolding cut_rule
returns c = search (tests, c.if-complete.false)
