-- `listing::put_refused` meets its contract: three writings one after the other. Assumes nothing.
use Rattle.lent.proofs.Laws.{then}
use Rattle.listing.specs.Listing.{words, refused_line}
use Rattle.listing.proofs.put_refused.Goals as goal

pub returns : goal.returns
unfolding words refused_line
returns c = then c.copy-a.ensures (then c.put_decimal-b.ensures c.put.ensures)
