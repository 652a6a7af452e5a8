-- `sheet::flags_rule` meets its contract: the rule for flags, with the sheet's number.
use borrow.Author.Rules.{rules}
use Rattle.sheet.specs.Check.{flags_rule}
use Rattle.sheet.proofs.flags_rule.Goals as goal

pub fault-requires : goal.fault-requires
unfolding flags_rule
fault-requires c = search rules

pub returns : goal.returns
unfolding flags_rule
returns c = cc
