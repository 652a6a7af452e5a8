-- `listing::mark` meets its contract: the two cases of a flag. Assumes nothing.
use Rattle.listing.specs.Listing.{mark}
use Rattle.listing.proofs.mark.Goals as goal

pub returns-then-set : goal.returns-then-set
unfolding mark
returns-then-set c = rw c.if-set.true

pub returns : goal.returns
unfolding mark
returns c = rw c.if-set.false
