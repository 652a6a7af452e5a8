-- `checks::first_fault` meets its contract: the loop carries what is left of the search.
use Rattle.reading.proofs.Places.{from_less}
use Rattle.reading.proofs.Loops.{four_in, here_start, here_next, here_end, walk_start, walk_found, walk_next, walk_end}
use Rattle.refusal.proofs.Calls.{call_some, call_zero}
use Rattle.text.specs.Reading.{desc_at}
use Rattle.checks.specs.Check.{first_finding}
use Rattle.checks.proofs.Findings.{finding_eq}
use Rattle.checks.proofs.first_fault.Goals as goal

pub loop-at-init : goal.loop-at-init
unfolding first_finding
loop-at-init c = (search here_start, search walk_start)

pub returns-then-broken-ne0 : goal.returns-then-broken-ne0
unfolding desc_at
returns-then-broken-ne0 c = search (walk_found, call_some, finding_eq, four_in)

pub loop-at-smaller : goal.loop-at-smaller
loop-at-smaller c = search (from_less, four_in)

pub loop-at-preserved : goal.loop-at-preserved
loop-at-preserved c = (search (here_next, four_in), search (walk_next, call_zero, four_in))

pub returns : goal.returns
returns c = search (walk_end, here_end)
