-- `judge::above` meets its contract: each return is a case of the definition.
use Rattle.judge.proofs.Boxes.{above_two, above_last, above_next}
use Rattle.judge.proofs.above.Goals as goal

pub returns-then-rt-ge2 : goal.returns-then-rt-ge2
returns-then-rt-ge2 c = search above_two

pub returns-then-sfn-ge65535 : goal.returns-then-sfn-ge65535
returns-then-sfn-ge65535 c = search above_last

pub returns : goal.returns
returns c = search above_next
