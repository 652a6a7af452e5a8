-- `load::ascends` meets its contract: the loop carries what is left of the list, from the number before on.
use native.Mathlib.Omega.{arith}
use Rattle.load.proofs.Numbers.{ascends_not, ascends_on, ascends_over}
use borrow.Author.Rules.{rules}
use Rattle.load.proofs.ascends.Goals as goal

pub loop-i-init : goal.loop-i-init
loop-i-init c = (omega arith, search rules)

pub returns-then-list-i : goal.returns-then-list-i
returns-then-list-i c = search ascends_not

pub loop-i-preserved : goal.loop-i-preserved
loop-i-preserved c = (omega arith, search ascends_on)

pub returns : goal.returns
returns c = search ascends_over
