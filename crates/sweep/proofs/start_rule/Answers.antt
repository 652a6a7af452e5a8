-- `sweep::start_rule` meets its contract: each early return is a case of the rule.
use Rattle.refusal.proofs.First.{tests}
use Rattle.sweep.specs.Sweep.{start_rule}
use Rattle.sweep.proofs.start_rule.Goals as goal

pub returns-then-rt-gt1 : goal.returns-then-rt-gt1
unfolding start_rule
returns-then-rt-gt1 c = search tests

pub returns-then-allocation-lt-LENGTH : goal.returns-then-allocation-lt-LENGTH
unfolding start_rule
returns-then-allocation-lt-LENGTH c = search tests

pub returns : goal.returns
unfolding start_rule
returns c = search tests
