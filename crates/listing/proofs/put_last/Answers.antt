-- `listing::put_last` meets its contract: nothing, or the fixed bytes. Assumes nothing.
use Rattle.lent.proofs.Laws.{nothing}
use Rattle.listing.specs.Listing.{ending_line}
use Rattle.listing.proofs.put_last.Goals as goal

pub returns-then-complete : goal.returns-then-complete
unfolding ending_line
returns-then-complete c = rw c.if-complete.true (nothing c.args.out.now c.args.at)

pub returns : goal.returns
unfolding ending_line
returns c = rw c.if-complete.false c.copy.ensures
