-- `judge::common` meets its contract: the loop carries what is left of both.
use native.Mathlib.Omega.{arith}
use Rattle.judge.proofs.Same.{common_left, common_right, common_differs, common_next}
use Rattle.judge.proofs.common.Goals as goal

pub loop-i-init : goal.loop-i-init
loop-i-init c = omega arith

pub returns-then-b-i : goal.returns-then-b-i
returns-then-b-i c = search common_right

pub returns-then-x-y : goal.returns-then-x-y
returns-then-x-y c = search common_differs

pub loop-i-preserved : goal.loop-i-preserved
loop-i-preserved c = search common_next

pub returns : goal.returns
returns c = search common_left
