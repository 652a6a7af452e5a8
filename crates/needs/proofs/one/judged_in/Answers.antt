-- `needs::one::judged_in` meets its contract: the loop carries what is left of the search.
use Rattle.reading.proofs.Places.{from_less}
use Rattle.needs.proofs.Alone.{one_start, one_here, one_next, one_none}
use Rattle.needs.proofs.one.judged_in.Goals as goal

pub loop-at-init : goal.loop-at-init
loop-at-init c = search one_start

pub returns-then-number-feature : goal.returns-then-number-feature
returns-then-number-feature c = search one_here

pub loop-at-smaller : goal.loop-at-smaller
loop-at-smaller c = search from_less

pub loop-at-preserved : goal.loop-at-preserved
loop-at-preserved c = search one_next

pub returns : goal.returns
returns c = search one_none
