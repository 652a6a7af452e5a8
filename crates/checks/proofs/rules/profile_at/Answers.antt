-- `checks::rules::profile_at` meets its contract.
use Rattle.refusal.proofs.First.{tests}
use Rattle.checks.specs.Rules.{profile_at}
use borrow.Author.Rules.{rules}
use Rattle.checks.proofs.rules.profile_at.Goals as goal

pub overflow_mul-i : goal.overflow_mul-i
unfolding profile_at
overflow_mul-i c = search rules

pub inside2-requires : goal.inside2-requires
unfolding profile_at
inside2-requires c = search rules

pub returns-then-number-eq0 : goal.returns-then-number-eq0
unfolding profile_at
returns-then-number-eq0 c = search (tests, ← c.inside2.ensures)

pub returns : goal.returns
unfolding profile_at
returns c = search (tests, ← c.inside2.ensures)
