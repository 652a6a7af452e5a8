-- `sweep::short_rule` meets its contract: each early return is a case of the rule.
use Rattle.refusal.proofs.First.{tests}
use Rattle.sweep.specs.inner.Numbers.{short_rule}
use Rattle.sweep.proofs.short_rule.Goals as goal

pub returns-then-complete : goal.returns-then-complete
unfolding short_rule
returns-then-complete c = search (tests, c.if-complete.true)

pub returns-then-received-most : goal.returns-then-received-most
unfolding short_rule
returns-then-received-most c = search (tests, c.if-complete.false)

pub returns : goal.returns
unfolding short_rule
returns c = search (tests, c.if-complete.false)
