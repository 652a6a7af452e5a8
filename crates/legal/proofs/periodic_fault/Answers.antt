-- `legal::periodic_fault` meets its contract: the loop carries what is left of the search, twelve bytes at a time.
use native.Mathlib.Omega.{arith}
use Rattle.refusal.proofs.First.{first_start}
use Rattle.legal.proofs.Words.{twelve_stop, twelve_go, twelve_end}
use Rattle.legal.proofs.periodic_fault.Goals as goal

pub loop-k-init : goal.loop-k-init
loop-k-init c = (omega arith, omega arith, λ i. (c.type_inv.body i).fits, search first_start)

pub returns-then-fault-ne0 : goal.returns-then-fault-ne0
returns-then-fault-ne0 c = search twelve_stop

pub loop-k-preserved : goal.loop-k-preserved
loop-k-preserved c = (omega arith, omega (arith, c.loop-k.invariant.1), c.loop-k.invariant.2, search twelve_go)

pub returns : goal.returns
returns c = search twelve_end
