-- `needs::walk::step_from` meets its contract: the loop carries what is left of the search.
use mathlib.Core.Path.{refl}
use Rattle.reading.proofs.Places.{from_less}
use Rattle.needs.proofs.Resumed.{place_found, place_long, place_next, place_end}
use Rattle.needs.proofs.walk.step_from.Goals as goal

pub loop-at-init : goal.loop-at-init
loop-at-init c = refl

pub returns-then-need-number : goal.returns-then-need-number
returns-then-need-number c = search place_found

pub returns-then-long_at : goal.returns-then-long_at
returns-then-long_at c = search place_long

pub loop-at-smaller : goal.loop-at-smaller
loop-at-smaller c = search from_less

pub loop-at-preserved : goal.loop-at-preserved
loop-at-preserved c = search place_next

pub returns : goal.returns
returns c = search place_end
