-- `reading::head_at` meets its contract: the rule at what is read.
use Rattle.reading.proofs.Tally.{length_stands, head_fault_here, head_none}
use Rattle.reading.proofs.head_at.Goals as goal

pub inside-len-requires : goal.inside-len-requires
inside-len-requires c = search length_stands

pub returns-then-fault-ne0 : goal.returns-then-fault-ne0
returns-then-fault-ne0 c = search head_fault_here

pub returns : goal.returns
returns c = search head_none
