-- `sweep::ends_sweep` meets its contract: 23 and 45 end the sweep, nothing else does.
use Rattle.sweep.proofs.Numbers.{ends_none_whole, ends_changed, ends_not}
use Rattle.sweep.proofs.ends_sweep.Goals as goal

pub returns-then-fault : goal.returns-then-fault
returns-then-fault c = search ends_none_whole

pub returns-then-fault-2 : goal.returns-then-fault-2
returns-then-fault-2 c = search ends_changed

pub returns : goal.returns
returns c = search ends_not
