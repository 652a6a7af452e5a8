-- `responder::pieces_slowly` meets its contract: the loop adds up the entries passed.
use Rattle.responder.proofs.Laws.{summed_start, summed_more, summed_end}
use Rattle.responder.proofs.pieces_slowly.Goals as goal

pub loop-i-init : goal.loop-i-init
loop-i-init c = summed_start _ _ _ _

pub loop-i-preserved : goal.loop-i-preserved
loop-i-preserved c = summed_more _ _ _ _ c.loop-i.invariant c.loop-i-test.true c.piece_size-size.ensures.0 c.piece_size-size.ensures.1

pub returns : goal.returns
returns c = summed_end _ _ _ _ c.loop-i.invariant c.loop-i-test.false
