-- `sheet::closed` meets its contract: the loop carries what is left of the search.
use borrow.Author.Rules.{rules}
use Rattle.sheet.proofs.Bisection.{half_smaller, turning_start, turning_more, turning_end}
use Rattle.sheet.proofs.closed.Goals as goal

pub loop-low-init : goal.loop-low-init
loop-low-init c = turning_start (search rules) (search rules)

pub halved-half-requires : goal.halved-half-requires
halved-half-requires c = (search rules, c.loop-low.invariant.most)

pub loop-low-smaller : goal.loop-low-smaller
loop-low-smaller c = rw c.halved-half.ensures (half_smaller _ _ _ _ c.loop-low-test.true)

pub loop-low-preserved : goal.loop-low-preserved
loop-low-preserved c = turning_more c.loop-low.invariant c.loop-low-test.true c.halved-half.ensures

pub overflow_cast-result : goal.overflow_cast-result
overflow_cast-result c = search (rules, c.loop-low.invariant.least)

pub returns : goal.returns
returns c = turning_end c.loop-low.invariant c.loop-low-test.false
