-- `sheet::first_from` meets its contract: the bisection of all.
use mathlib.Core.Path.{◌∙◌}
use Rattle.sheet.proofs.Bisection.{first_of_all, first_closed}
use Rattle.sheet.proofs.first_from.Goals as goal

pub returns-then-sfn-eq0 : goal.returns-then-sfn-eq0
returns-then-sfn-eq0 c = search first_of_all

pub returns : goal.returns
returns c = c.closed.ensures ∙ first_closed _ _ _
