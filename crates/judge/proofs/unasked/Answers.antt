-- `judge::unasked` meets its contract: nothing was answered, or something.
use Rattle.judge.proofs.Same.{unasked_none, unasked_some}
use Rattle.judge.proofs.unasked.Goals as goal

pub returns-then-response-eq0 : goal.returns-then-response-eq0
returns-then-response-eq0 c = search unasked_none

pub returns : goal.returns
returns c = search unasked_some
