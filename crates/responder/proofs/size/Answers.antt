-- `responder::size` meets its contract: the plan's size.
use mathlib.Core.Path.{ap}
use Rattle.responder.specs.declared.Plan.{Plan}
use Rattle.responder.specs.inner.Index.{plan_of}
use Rattle.responder.proofs.size.Goals as goal

pub returns : goal.returns
unfolding plan_of
returns c = ap (λ (p : Plan). p.size) c.planned-found.ensures
