-- `checks::rules::profiles_fault` meets its contract: the loop carries what is left of the search.
use native.Mathlib.Omega.{arith}
use Rattle.refusal.proofs.First.{first_start, first_stop, first_go, first_none}
use Rattle.refusal.proofs.First.{tests}
use Rattle.checks.specs.Rules.{profiles_fault}
use Rattle.checks.proofs.rules.profiles_fault.Goals as goal

pub returns-then-f-ne0 : goal.returns-then-f-ne0
unfolding profiles_fault
returns-then-f-ne0 c = search tests

pub loop-i-init : goal.loop-i-init
loop-i-init c = (omega arith, search first_start)

pub returns-then-fault-ne0 : goal.returns-then-fault-ne0
unfolding profiles_fault
returns-then-fault-ne0 c = search (tests, first_stop)

pub loop-i-preserved : goal.loop-i-preserved
loop-i-preserved c = (omega arith, search first_go)

pub returns : goal.returns
unfolding profiles_fault
returns c = search (tests, first_none)
