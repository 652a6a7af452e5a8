-- `capture::flags_fault` meets its contract: the loop carries what is left of the search.
use native.Mathlib.Omega.{arith}
use mathlib.Core.Path.{refl}
use Rattle.reading.proofs.Places.{from_less}
use Rattle.capture.proofs.Faults.{flags_stop, flags_go, flags_none, place_next}
use Rattle.capture.proofs.flags_fault.Goals as goal

pub loop-at-init : goal.loop-at-init
loop-at-init c = (refl, omega arith)

pub returns-then-fault-ne0 : goal.returns-then-fault-ne0
returns-then-fault-ne0 c = search flags_stop

pub loop-at-smaller : goal.loop-at-smaller
loop-at-smaller c = search from_less

pub loop-at-preserved : goal.loop-at-preserved
loop-at-preserved c = (search flags_go, search place_next)

pub returns : goal.returns
returns c = search flags_none
