-- `lent::clear_list` meets its contract: one zero more, where there is room for it, at the index behind the others.
use native.Mathlib.Omega.{arith}
use Rattle.lent.proofs.Laws.{filled_at, kept}
use Rattle.lent.proofs.clear_list.Goals as goal

pub loop-at-preserved : goal.loop-at-preserved
loop-at-preserved c = filled_at 0 c.loop-at.invariant (omega arith) (omega (arith, kept c.loop-at.invariant))
