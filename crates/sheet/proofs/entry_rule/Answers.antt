-- `sheet::entry_rule` meets its contract: each early return is a case of the rule.
use Rattle.refusal.proofs.First.{tests}
use Rattle.sheet.specs.Check.{entry_rule}
use borrow.Author.Rules.{rules}
use Rattle.sheet.proofs.entry_rule.Goals as goal

pub returns-then-number-eq0 : goal.returns-then-number-eq0
unfolding entry_rule
returns-then-number-eq0 c = search tests

pub returns-then-number-before : goal.returns-then-number-before
unfolding entry_rule
returns-then-number-before c = search tests

pub flags_rule-fault-requires : goal.flags_rule-fault-requires
unfolding entry_rule
flags_rule-fault-requires c = search rules

pub returns-then-fault-ne0 : goal.returns-then-fault-ne0
unfolding entry_rule
returns-then-fault-ne0 c = search (tests, ← c.flags_rule-fault.ensures)

pub returns-then-len-ne0 : goal.returns-then-len-ne0
unfolding entry_rule
returns-then-len-ne0 c = search (tests, ← c.flags_rule-fault.ensures)

pub returns-then-offset-end : goal.returns-then-offset-end
unfolding entry_rule
returns-then-offset-end c = search (tests, ← c.flags_rule-fault.ensures)

pub returns : goal.returns
unfolding entry_rule
returns c = search (tests, ← c.flags_rule-fault.ensures)
