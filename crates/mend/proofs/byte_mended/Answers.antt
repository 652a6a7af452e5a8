-- `mend::byte_mended` meets its contract: cleared, or masked.
use Rattle.mend.proofs.Steps.{planned_cleared, planned_masked}
use Rattle.mend.proofs.byte_mended.Goals as goal

pub returns-then-is_cleared : goal.returns-then-is_cleared
returns-then-is_cleared c = search planned_cleared

pub returns : goal.returns
returns c = search planned_masked
