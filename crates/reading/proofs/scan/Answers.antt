-- `reading::scan` meets its contract: a refusal of the header or of the walk, or the walk's numbers.
use mathlib.Core.Path.{◌∙◌}
use Rattle.reading.proofs.Outcome.{scan_room, scan_header, scan_walk, scan_taken}
use Rattle.reading.proofs.scan.Goals as goal

pub returns-then-fault-ne0 : goal.returns-then-fault-ne0
returns-then-fault-ne0 c = c.refusing.ensures ∙ search scan_header

pub walk_over-requires : goal.walk_over-requires
walk_over-requires c = scan_room _ _ _ _ _ c.header_rule-fault.ensures c.if-fault-ne0.false

pub returns-in-Refused : goal.returns-in-Refused
returns-in-Refused c = c.refusing-in-Refused.ensures ∙ search scan_walk

pub returns-in-Whole : goal.returns-in-Whole
returns-in-Whole c = scan_taken _ _ _ _ _ _ c.get4-stated.ensures c.header_rule-fault.ensures c.if-fault-ne0.false _ c.walk_over.ensures _ _ _ c.in-Whole.is _ c.get2.ensures
