-- `needs::walk::step_for` meets its contract: the step of the search, or the place itself.
use mathlib.Core.Path.{sym, ◌∙◌}
use Rattle.needs.proofs.Resumed.{step_own, step_other}
use Rattle.needs.proofs.walk.step_for.Goals as goal

pub returns-then-is_marked : goal.returns-then-is_marked
returns-then-is_marked c = c.step_from.ensures ∙ sym (search step_own)

pub returns : goal.returns
returns c = sym (search step_other)
