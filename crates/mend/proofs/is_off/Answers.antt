-- `mend::is_off` meets its contract: another feature, or what the bit says.
use Rattle.mend.proofs.Steps.{off_other, off_bit}
use Rattle.mend.proofs.is_off.Goals as goal

pub returns-then-f-ne46 : goal.returns-then-f-ne46
returns-then-f-ne46 c = search off_other

pub returns : goal.returns
returns c = search off_bit
