-- `responder::put_zero_part` meets its contract, by the two cases of SFN.
use Rattle.lent.proofs.Laws.{nothing}
use Rattle.responder.proofs.Laws.{zero_sent, zero_left}
use Rattle.responder.proofs.put_zero_part.Goals as goal

pub returns-then-sfn-eq0 : goal.returns-then-sfn-eq0
returns-then-sfn-eq0 c = rw (zero_sent c.args.sfn.0 _ c.if-sfn-eq0.true) c.put_zero.ensures

pub returns : goal.returns
returns c = rw (zero_left c.args.sfn.0 _ c.if-sfn-eq0.false) (nothing _ _)
