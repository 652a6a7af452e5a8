-- `reading::complete_number` meets its contract: the header's number, the walk's, that it is cut, or none.
use Rattle.reading.proofs.Outcome.{scan_room}
use Rattle.reading.proofs.Completed.{number_header, number_walk, number_cut, number_none}
use Rattle.reading.proofs.complete_number.Goals as goal

pub returns-then-fault-ne0 : goal.returns-then-fault-ne0
returns-then-fault-ne0 c = search number_header

pub walk_number-number-requires : goal.walk_number-number-requires
walk_number-number-requires c = scan_room _ _ _ _ _ c.header_rule-fault.ensures c.if-fault-ne0.false

pub returns-then-number-ne0 : goal.returns-then-number-ne0
returns-then-number-ne0 c = search number_walk

pub returns-then-s-full : goal.returns-then-s-full
returns-then-s-full c = search number_cut

pub returns : goal.returns
returns c = search number_none
