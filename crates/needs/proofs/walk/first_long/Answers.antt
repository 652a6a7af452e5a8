-- `needs::walk::first_long` meets its contract: the loop carries what is left of the search.
use mathlib.Core.Path.{refl}
use Rattle.reading.proofs.Places.{from_less}
use Rattle.needs.proofs.Resumed.{long_found, long_next, long_end}
use Rattle.needs.proofs.walk.first_long.Goals as goal

pub loop-at-init : goal.loop-at-init
loop-at-init c = refl

pub returns-then-long_at : goal.returns-then-long_at
returns-then-long_at c = search long_found

pub loop-at-smaller : goal.loop-at-smaller
loop-at-smaller c = search from_less

pub loop-at-preserved : goal.loop-at-preserved
loop-at-preserved c = search long_next

pub returns : goal.returns
returns c = search long_end
