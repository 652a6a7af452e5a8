-- `profiles::fault` meets its contract: the loop carries what is left of the search.
use native.Mathlib.Omega.{arith}
use Rattle.refusal.proofs.First.{first_start}
use Rattle.profiles.specs.Profiles.{records_fault}
use Rattle.profiles.proofs.Stopped.{records_stop, records_go, records_none}
use Rattle.profiles.proofs.Loops.{within_none, within_more}
use Rattle.profiles.proofs.fault.Goals as goal

pub loop-i-init : goal.loop-i-init
loop-i-init c = (omega arith, within_none _ _ _, search first_start)

pub returns-then-fault-ne0 : goal.returns-then-fault-ne0
unfolding records_fault
returns-then-fault-ne0 c = search records_stop

pub loop-i-preserved : goal.loop-i-preserved
loop-i-preserved c = (
  omega arith,
  within_more _ _ _ _ _ _ _ c.loop-i.invariant.1 c.inside2.ensures c.lower-low.ensures c.higher-high.ensures,
  records_go _ _ _ c.loop-i.invariant.2 _ c.loop-i-test.true c.record_fault-fault.ensures c.if-fault-ne0.false,
)

pub returns : goal.returns
unfolding records_fault
returns c = search records_none
