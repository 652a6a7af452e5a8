-- `sense::is_same` meets its contract: the loop carries what is left to compare.
use borrow.Author.Rules.{rules}
use mathlib.Core.Path.{refl}
use Rattle.sense.proofs.Same.{same_lengths, same_differs, same_next, same_end}
use Rattle.sense.proofs.is_same.Goals as goal

pub returns-then-a-b : goal.returns-then-a-b
returns-then-a-b c = search same_lengths

pub loop-i-init : goal.loop-i-init
loop-i-init c = (search rules, refl)

pub returns-then-x-y : goal.returns-then-x-y
returns-then-x-y c = search same_differs

pub loop-i-preserved : goal.loop-i-preserved
loop-i-preserved c = (search rules, search same_next)

pub returns : goal.returns
returns c = search same_end
