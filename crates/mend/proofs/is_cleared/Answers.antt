-- `mend::is_cleared` meets its contract: it is switched on, and the byte is one of the three.
use Rattle.mend.proofs.Steps.{cleared_unset, cleared_first, cleared_there}
use Rattle.mend.proofs.is_cleared.Goals as goal

pub returns-then-not-off : goal.returns-then-not-off
returns-then-not-off c = search cleared_unset

pub returns-then-k-lt1 : goal.returns-then-k-lt1
returns-then-k-lt1 c = search cleared_first

pub returns : goal.returns
returns c = search cleared_there
