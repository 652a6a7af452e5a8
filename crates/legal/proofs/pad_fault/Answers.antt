-- `legal::pad_fault` meets its contract: the loop carries what is left of the search.
use native.Mathlib.Omega.{arith}
use Rattle.refusal.proofs.First.{first_start, first_stop, first_go, first_none}
use Rattle.legal.proofs.Reserved.{pad_is}
use Rattle.legal.proofs.pad_fault.Goals as goal

pub loop-k-init : goal.loop-k-init
loop-k-init c = (omega arith, search first_start)

pub returns-then-fault-ne0 : goal.returns-then-fault-ne0
returns-then-fault-ne0 c = search (first_stop, pad_is)

pub loop-k-preserved : goal.loop-k-preserved
loop-k-preserved c = (omega arith, search (first_go, pad_is))

pub returns : goal.returns
returns c = search first_none
