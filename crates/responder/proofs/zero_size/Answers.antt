-- `responder::zero_size` meets its contract, by the two cases of SFN.
use mathlib.Core.Path.{sym}
use native.Mathlib.Omega.{arith}
use Rattle.responder.proofs.Laws.{zero_size_sent, zero_size_left}
use Rattle.responder.proofs.zero_size.Goals as goal

pub returns-then-sfn-eq0 : goal.returns-then-sfn-eq0
returns-then-sfn-eq0 c = let k = zero_size_sent c.args.s.now c.args.sfn.0 c.if-sfn-eq0.true in (omega arith, omega arith)

pub returns : goal.returns
returns c = (sym (zero_size_left c.args.s.now c.args.sfn.0 c.if-sfn-eq0.false), omega arith)
