-- `mend::fix` meets its contract: the byte and its note.
use Rattle.mend.proofs.Fixing.{fixes_one}
use Rattle.mend.proofs.fix.Goals as goal

pub returns : goal.returns
returns c = search fixes_one
