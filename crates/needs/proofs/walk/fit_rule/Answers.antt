-- `needs::walk::fit_rule` meets its contract: each early return is a case of the rule.
use Rattle.needs.specs.Judge.{line_wrong}
use Rattle.needs.proofs.Rules.{rules}
use Rattle.needs.proofs.walk.fit_rule.Goals as goal

pub returns-then-len-least : goal.returns-then-len-least
unfolding line_wrong
returns-then-len-least c = search rules

pub returns-then-kept-bits : goal.returns-then-kept-bits
unfolding line_wrong
returns-then-kept-bits c = search rules

pub returns-then-set-wanted : goal.returns-then-set-wanted
unfolding line_wrong
returns-then-set-wanted c = search rules

pub returns-then-longest-len : goal.returns-then-longest-len
unfolding line_wrong
returns-then-longest-len c = search rules

pub returns : goal.returns
unfolding line_wrong
returns c = search rules
