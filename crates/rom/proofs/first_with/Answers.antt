-- `rom::first_with` meets its contract: the loop carries what is left of the search.
use native.Mathlib.Omega.{arith}
use mathlib.Core.Path.{refl}
use Rattle.reading.proofs.Places.{from_less}
use Rattle.rom.proofs.Seek.{with_found, with_go, seek_end}
use Rattle.rom.proofs.first_with.Goals as goal

pub loop-at-init : goal.loop-at-init
loop-at-init c = refl

pub returns-then-agrees : goal.returns-then-agrees
returns-then-agrees c = (search with_found, omega arith)

pub loop-at-smaller : goal.loop-at-smaller
loop-at-smaller c = search from_less

pub loop-at-preserved : goal.loop-at-preserved
loop-at-preserved c = search with_go

pub returns : goal.returns
returns c = (search seek_end, omega arith)
