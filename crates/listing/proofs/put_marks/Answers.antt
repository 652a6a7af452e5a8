-- `listing::put_marks` meets its contract: two writings one after the other. Assumes nothing.
use Rattle.lent.proofs.Laws.{then}
use Rattle.listing.specs.Listing.{marks}
use Rattle.listing.proofs.put_marks.Goals as goal

pub returns : goal.returns
unfolding marks
returns c = rw (← c.persistent.ensures, ← c.mark.ensures, ← c.current.ensures, ← c.mark-2.ensures) (then c.put-a.ensures c.put.ensures)
