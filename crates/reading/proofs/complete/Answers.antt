-- `reading::complete` meets its contract: the reading, or that it is cut.
use Rattle.reading.proofs.Completed.{complete_refused, complete_cut, complete_whole}
use Rattle.reading.proofs.complete.Goals as goal

pub returns-then-fault-ne0 : goal.returns-then-fault-ne0
returns-then-fault-ne0 c = search complete_refused

pub returns-then-not-reading : goal.returns-then-not-reading
returns-then-not-reading c = search complete_cut

pub returns : goal.returns
returns c = search complete_whole
