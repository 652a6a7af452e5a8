-- `rom::first_from` meets its contract: the loop carries what is left of the search.
use mathlib.Core.Path.{refl}
use Rattle.reading.proofs.Places.{from_less}
use Rattle.rom.proofs.Seek.{from_found, from_go, seek_end}
use Rattle.rom.proofs.first_from.Goals as goal

pub loop-at-init : goal.loop-at-init
loop-at-init c = refl

pub returns-then-sfn-number : goal.returns-then-sfn-number
returns-then-sfn-number c = search from_found

pub loop-at-smaller : goal.loop-at-smaller
loop-at-smaller c = search from_less

pub loop-at-preserved : goal.loop-at-preserved
loop-at-preserved c = search from_go

pub returns : goal.returns
returns c = search seek_end
