-- `sweep::Sweep::start` meets its contract: the start rule decides between the two records.
use Rattle.sweep.specs.Sweep.{fresh, ended_now}
use Rattle.sweep.proofs.Numbers.{start_fault, start_fresh}
use Rattle.sweep.proofs.Sweep.start.Goals as goal

pub returns-then-fault-ne0 : goal.returns-then-fault-ne0
unfolding ended_now fresh
returns-then-fault-ne0 c = search start_fault

pub returns : goal.returns
unfolding fresh
returns c = search start_fresh
