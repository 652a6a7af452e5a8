-- `reading::spot_of` meets its contract: none where the header is refused, else what the walk finds.
use Rattle.reading.proofs.Outcome.{scan_room}
use Rattle.reading.proofs.Spots.{spot_header, spot_walk}
use Rattle.reading.proofs.spot_of.Goals as goal

pub returns-then-fault-ne0 : goal.returns-then-fault-ne0
returns-then-fault-ne0 c = search spot_header

pub walk_finding-requires : goal.walk_finding-requires
walk_finding-requires c = scan_room _ _ _ _ _ c.header_rule-fault.ensures c.if-fault-ne0.false

pub returns : goal.returns
returns c = search spot_walk
