-- `sweep::Sweep::closed_rule` meets its contract: the start rule's refusal, or each early return is a case of the rule.
use Rattle.refusal.proofs.First.{tests}
use Rattle.sweep.specs.inner.Numbers.{closed_rule}
use Rattle.sweep.proofs.Sweep.closed_rule.Goals as goal

pub returns-then-fault-ne0 : goal.returns-then-fault-ne0
unfolding closed_rule
returns-then-fault-ne0 c = search (tests, ← c.start_rule-fault.ensures)

pub returns-then-self : goal.returns-then-self
unfolding closed_rule
returns-then-self c = search (tests, ← c.start_rule-fault.ensures, c.if-self.true)

pub returns-then-self-ge-MOST_COMMANDS : goal.returns-then-self-ge-MOST_COMMANDS
unfolding closed_rule
returns-then-self-ge-MOST_COMMANDS c = search (tests, ← c.start_rule-fault.ensures, c.if-self.false)

pub returns : goal.returns
unfolding closed_rule
returns c = search (tests, ← c.start_rule-fault.ensures, c.if-self.false)
