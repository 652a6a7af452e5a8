-- `needs::walk::asks_nothing` meets its contract: each early return is a case of the test.
use Rattle.needs.specs.inner.Walk.{asks_nothing}
use Rattle.needs.proofs.Rules.{rules}
use Rattle.needs.proofs.walk.asks_nothing.Goals as goal

pub returns-then-longest-ne-ANY_LENGTH : goal.returns-then-longest-ne-ANY_LENGTH
unfolding asks_nothing
returns-then-longest-ne-ANY_LENGTH c = search rules

pub returns-then-need-ne0 : goal.returns-then-need-ne0
unfolding asks_nothing
returns-then-need-ne0 c = search rules

pub returns-then-need-ne0-2 : goal.returns-then-need-ne0-2
unfolding asks_nothing
returns-then-need-ne0-2 c = search rules

pub returns : goal.returns
unfolding asks_nothing
returns c = search rules
