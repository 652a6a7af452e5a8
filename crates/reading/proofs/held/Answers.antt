-- `reading::held` meets its contract: the fresh part where it is not empty, else the kept one.
use Rattle.reading.proofs.Fresh.{part_fresh, part_kept}
use Rattle.reading.proofs.held.Goals as goal

pub returns-then-part-ne0 : goal.returns-then-part-ne0
returns-then-part-ne0 c = search part_fresh

pub returns : goal.returns
returns c = search part_kept
