-- `listing::put_first` meets its contract: each word and what stands behind it, one writing after the other. Assumes nothing.
use Rattle.lent.proofs.Laws.{then}
use Rattle.listing.specs.Listing.{words, first_line}
use Rattle.listing.proofs.put_first.Goals as goal

pub returns : goal.returns
unfolding words first_line
returns c = let early = c in
    let origin = early in
    then (then origin.put_hex4-a.ensures origin.put-b.ensures)
    (then (then early.put_decimal-c.ensures early.put-d.ensures)
    (then c.put_decimal-e.ensures c.put.ensures))
