-- `legal::reserved_rule` meets its contract: each early return is a case of the rule.
use Rattle.refusal.proofs.First.{tests}
use Rattle.legal.specs.Bodies.{reserved_rule}
use Rattle.legal.proofs.reserved_rule.Goals as goal

pub returns-then-kept-word : goal.returns-then-kept-word
unfolding reserved_rule
returns-then-kept-word c = search tests

pub returns : goal.returns
unfolding reserved_rule
returns c = search tests
