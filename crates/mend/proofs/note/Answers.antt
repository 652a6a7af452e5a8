-- `mend::note` meets its contract: no change, one that has room, one that has none.
use Rattle.mend.proofs.Fixing.{noted_none, noted_some, noted_nowhere}
use Rattle.mend.proofs.note.Goals as goal

pub returns-then-old-new : goal.returns-then-old-new
returns-then-old-new c = search noted_none

pub returns-then-n-list : goal.returns-then-n-list
returns-then-n-list c = search noted_some

pub returns : goal.returns
returns c = search noted_nowhere
