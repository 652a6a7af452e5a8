-- `sweep::Sweep::refused` meets its contract: a refusal that ends the sweep marks the record.
use Rattle.sweep.specs.Sweep.{ended_now}
use Rattle.sweep.proofs.Numbers.{left_ended, left_same}
use Rattle.sweep.proofs.Sweep.refused.Goals as goal

pub returns-then-ends_sweep : goal.returns-then-ends_sweep
unfolding ended_now
returns-then-ends_sweep c = left_ended _ _ _ c.ends_sweep.ensures c.if-ends_sweep.true

pub returns : goal.returns
returns c = left_same _ _ _ c.ends_sweep.ensures c.if-ends_sweep.false
