-- `responder::put_header` meets its contract: two numbers one after the other.
use native.Mathlib.Omega.{arith}
use Rattle.lent.proofs.Laws.{then, written_as}
use Rattle.responder.proofs.Laws.{header_words}
use Rattle.responder.proofs.put_header.Goals as goal

pub returns : goal.returns
returns c = let h = c.args.h in
    written_as (header_words h.data_length h.profile.0 (omega arith)) (then c.put4-a.ensures c.put4.ensures)
