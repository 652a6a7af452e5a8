-- `listing::list` meets its contract: the refusal, or the first line, the lines and the last, one writing after the other. Assumes nothing.
use mathlib.Core.Path.{ap}
use Rattle.lent.proofs.Laws.{then}
use Rattle.text.specs.declared.Reading.{Reading}
use Rattle.listing.proofs.Outcome.{listing_refused, listing_accepted}
use Rattle.listing.proofs.list.Goals as goal

pub returns-then-refusal-ne0 : goal.returns-then-refusal-ne0
returns-then-refusal-ne0 c = let a = c.args in
    let r = c.read-reading in
    rw (listing_refused a.s.now r.result r.ensures c.if-refusal-ne0.true) c.put_refused.ensures

pub put_lines-b-requires : goal.put_lines-b-requires
put_lines-b-requires c = ap (λ (x : Reading). x.end) c.read-reading.ensures

pub returns : goal.returns
returns c = let early = c in
    let a = early.args in
    let r = early.read-reading in
    rw (listing_accepted a.s.now r.result r.ensures early.if-refusal-ne0.false)
    (then (then early.put_first-a.ensures c.put_lines-b.ensures) c.put_last.ensures)
