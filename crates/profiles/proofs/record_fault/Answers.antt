-- `profiles::record_fault` meets its contract: the rule at what stands in the list, at its place.
use Rattle.profiles.proofs.Loops.{lists_below, record_spoilt, record_above, record_judged, record_seen}
use Rattle.profiles.proofs.record_fault.Goals as goal

pub returns-then-two-gt1 : goal.returns-then-two-gt1
returns-then-two-gt1 c = search record_spoilt

pub returns-then-high-number : goal.returns-then-high-number
returns-then-high-number c = search record_above

pub returns-then-number-low : goal.returns-then-number-low
returns-then-number-low c = search (record_judged, lists_below)

pub returns : goal.returns
returns c = search record_seen
