-- `mend::persistent_mended` meets its contract: cleared or not.
use Rattle.mend.proofs.Steps.{persistent_cleared, persistent_kept}
use Rattle.mend.proofs.persistent_mended.Goals as goal

pub returns-then-is_forbidden : goal.returns-then-is_forbidden
returns-then-is_forbidden c = search persistent_cleared

pub returns : goal.returns
returns c = search persistent_kept
