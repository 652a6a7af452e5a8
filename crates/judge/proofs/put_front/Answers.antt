-- `judge::put_front` meets its contract: two numbers one after the other.
use native.Mathlib.Omega.{arith}
use Rattle.lent.proofs.Laws.{then, written_as}
use Rattle.responder.proofs.Laws.{header_words}
use Rattle.judge.proofs.put_front.Goals as goal

pub returns : goal.returns
returns c = let a = c.args in
    written_as (header_words a.length a.profile.0 (omega arith)) (then c.put4-a.ensures c.put4.ensures)
