-- `legal::words_fault` meets its contract: each early return is a case of the rule.
use Rattle.refusal.proofs.First.{faults}
use Rattle.legal.specs.inner.Periodic.{words_rule}
use borrow.Author.Rules.{rules}
use Rattle.legal.proofs.words_fault.Goals as goal

pub reserved_rule-fault-requires : goal.reserved_rule-fault-requires
unfolding words_rule
reserved_rule-fault-requires c = search rules

pub returns-then-fault-ne0 : goal.returns-then-fault-ne0
unfolding words_rule
returns-then-fault-ne0 c = search faults

pub reserved_rule-fault-requires-2 : goal.reserved_rule-fault-requires-2
unfolding words_rule
reserved_rule-fault-requires-2 c = search rules

pub returns-then-fault-ne0-2 : goal.returns-then-fault-ne0-2
unfolding words_rule
returns-then-fault-ne0-2 c = search faults

pub reserved_rule-requires : goal.reserved_rule-requires
unfolding words_rule
reserved_rule-requires c = search rules

pub returns : goal.returns
unfolding words_rule
returns c = search faults
