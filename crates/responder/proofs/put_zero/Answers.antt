-- `responder::put_zero` meets its contract: a number, and the list behind it.
use Prim.Native.Nat.{◌*◌, ◌%◌}
use native.Mathlib.Omega.{arith}
use Rattle.lent.proofs.Laws.{then, written_as}
use Rattle.responder.proofs.Laws.{zero_words}
use Rattle.responder.proofs.put_zero.Goals as goal

pub returns : goal.returns
returns c = written_as (zero_words (4 * c.args.count % 256) _ (omega arith)) (then c.put4-behind.ensures c.copy.ensures)
