-- `profiles::rule` meets its contract: each early return is a case of the rule.
use Rattle.refusal.proofs.First.{tests}
use Rattle.profiles.specs.Profiles.{record_rule}
use Rattle.profiles.proofs.rule.Goals as goal

pub returns-then-number-eq0 : goal.returns-then-number-eq0
unfolding record_rule
returns-then-number-eq0 c = search tests

pub returns-then-before : goal.returns-then-before
unfolding record_rule
returns-then-before c = search (tests, c.if-before.true)

pub returns : goal.returns
unfolding record_rule
returns c = search (tests, c.if-before.false)
