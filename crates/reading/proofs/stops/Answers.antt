-- `reading::stops` meets its contract: nowhere where the header is refused, else where the walk has come to.
use mathlib.Core.Path.{◌∙◌}
use Rattle.reading.proofs.Outcome.{scan_room, stop_header, stop_walk, stop_taken}
use Rattle.reading.proofs.stops.Goals as goal

pub returns-then-fault-ne0 : goal.returns-then-fault-ne0
returns-then-fault-ne0 c = search stop_header

pub walk_over-requires : goal.walk_over-requires
walk_over-requires c = scan_room _ _ _ _ _ c.header_rule-fault.ensures c.if-fault-ne0.false

pub returns-in-Refused : goal.returns-in-Refused
returns-in-Refused c = c.standing.ensures ∙ search stop_walk

pub returns-in-Whole : goal.returns-in-Whole
returns-in-Whole c = c.standing-in-Whole.ensures ∙ search stop_taken
