-- `refusal::Refusal::placed` meets its contract.
use mathlib.Core.Path.{sym}
use Rattle.refusal.proofs.First.{placed_none, placed_fault}
use Rattle.refusal.proofs.Refusal.placed.Goals as goal

pub returns-then-self-eq0 : goal.returns-then-self-eq0
returns-then-self-eq0 c = sym (placed_none _ _ c.if-self-eq0.true)

pub returns : goal.returns
returns c = sym (placed_fault _ _ c.if-self-eq0.false)
