-- `checks::rules::row_rule` meets its contract: each early return is a case of the rule.
use Rattle.refusal.proofs.Calls.{calls}
use Rattle.checks.specs.Rules.{row_rule}
use borrow.Author.Rules.{rules}
use Rattle.checks.proofs.rules.row_rule.Goals as goal

pub wrong_length-requires : goal.wrong_length-requires
unfolding row_rule
wrong_length-requires c = search rules

pub returns-then-wrong_length : goal.returns-then-wrong_length
unfolding row_rule
returns-then-wrong_length c = search calls

pub flags_short-requires : goal.flags_short-requires
unfolding row_rule
flags_short-requires c = search rules

pub returns-then-flags_short : goal.returns-then-flags_short
unfolding row_rule
returns-then-flags_short c = search calls

pub flags_barred-requires : goal.flags_barred-requires
unfolding row_rule
flags_barred-requires c = search rules

pub returns-then-flags_barred : goal.returns-then-flags_barred
unfolding row_rule
returns-then-flags_barred c = search calls

pub returns : goal.returns
unfolding row_rule
returns c = search calls
