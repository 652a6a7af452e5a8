-- `listing::put_line` meets its contract: each word and what stands behind it, one writing after the other. Assumes nothing.
use Rattle.lent.proofs.Laws.{then}
use Rattle.listing.specs.Listing.{words, line_of}
use Rattle.listing.proofs.put_line.Goals as goal

pub returns : goal.returns
unfolding words line_of
returns c = let early = c in
    let origin = early in
    rw (← early.version.ensures)
    (then (then origin.put_hex4-a.ensures origin.put-b.ensures)
    (then (then origin.put_marks-c.ensures early.put-d.ensures)
    (then (then early.put_decimal-e.ensures c.put-f.ensures)
    (then c.put_decimal-g.ensures c.put.ensures))))
