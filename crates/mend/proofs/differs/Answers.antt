-- `mend::differs` meets its contract: the bytes are the same or not.
use Rattle.mend.proofs.Steps.{differs_none, differs_some}
use Rattle.mend.proofs.differs.Goals as goal

pub returns-then-a-b : goal.returns-then-a-b
returns-then-a-b c = search differs_none

pub returns : goal.returns
returns c = differs_some _ _ c.if-a-b.false
