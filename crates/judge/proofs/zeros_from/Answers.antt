-- `judge::zeros_from` meets its contract: the loop carries what is left.
use mathlib.Core.Path.{refl}
use Rattle.judge.proofs.Same.{zeros_end, zeros_not, zeros_next}
use Rattle.judge.proofs.zeros_from.Goals as goal

pub loop-i-init : goal.loop-i-init
loop-i-init c = refl

pub returns-then-x-ne0 : goal.returns-then-x-ne0
returns-then-x-ne0 c = search zeros_not

pub loop-i-preserved : goal.loop-i-preserved
loop-i-preserved c = search zeros_next

pub returns : goal.returns
returns c = search zeros_end
