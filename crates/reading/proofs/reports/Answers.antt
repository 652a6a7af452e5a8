-- `reading::reports` meets its contract: the loop carries what is left of the search.
use Rattle.text.specs.Reading.{desc_at}
use Rattle.reading.specs.Places.{reported}
use Rattle.refusal.proofs.Calls.{call_ne, below_ne}
use Rattle.reading.proofs.Places.{from_less}
use Rattle.reading.proofs.Loops.{four_in, here_start, here_next, here_end, here_told, walk_start, walk_next, walk_end}
use Rattle.reading.proofs.reports.Goals as goal

pub loop-at-init : goal.loop-at-init
unfolding reported
loop-at-init c = (search here_start, search walk_start)

pub returns-then-f-number : goal.returns-then-f-number
returns-then-f-number c = search (here_told, four_in)

pub loop-at-smaller : goal.loop-at-smaller
loop-at-smaller c = search (from_less, four_in)

pub loop-at-preserved : goal.loop-at-preserved
unfolding desc_at
loop-at-preserved c = (search (here_next, four_in), search (walk_next, call_ne, four_in, below_ne))

pub returns : goal.returns
returns c = search (walk_end, here_end)
