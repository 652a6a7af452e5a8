-- `checks::rules::flags_fault` meets its contract: the rule for flags, with the check's numbers.
use borrow.Author.Rules.{rules}
use Rattle.checks.specs.Rules.{flags_fault}
use Rattle.checks.proofs.rules.flags_fault.Goals as goal

pub fault-requires : goal.fault-requires
unfolding flags_fault
fault-requires c = search rules

pub returns : goal.returns
unfolding flags_fault
returns c = cc
