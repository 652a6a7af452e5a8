-- `sweep::profile_rule` meets its contract: each early return is a case of the rule.
use Rattle.refusal.proofs.First.{tests}
use Rattle.sweep.specs.inner.Numbers.{profile_rule}
use Rattle.sweep.proofs.profile_rule.Goals as goal

pub returns-then-commands-eq0 : goal.returns-then-commands-eq0
unfolding profile_rule
returns-then-commands-eq0 c = search tests

pub returns-then-profile-held : goal.returns-then-profile-held
unfolding profile_rule
returns-then-profile-held c = search tests

pub returns : goal.returns
unfolding profile_rule
returns c = search tests
