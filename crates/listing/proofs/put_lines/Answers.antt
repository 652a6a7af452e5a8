-- `listing::put_lines` meets its contract: the loop has listed the descriptors passed. Assumes nothing.
use Rattle.lent.proofs.Laws.{kept}
use Rattle.reading.proofs.Places.{left_less}
use Rattle.listing.proofs.Passed.{passed_start, passed_within, passed_more, passed_end}
use Rattle.listing.proofs.put_lines.Goals as goal

pub loop-place-init : goal.loop-place-init
loop-place-init c = let a = c.args in
    (passed_within a.s.now a.end c.requires, passed_start a.s.now a.end c.requires a.out.now a.at)

pub loop-place-smaller : goal.loop-place-smaller
loop-place-smaller c = search left_less

pub loop-place-preserved : goal.loop-place-preserved
loop-place-preserved c = let l = c.loop-place.invariant in
    (l.0, passed_more l.1 l.0 c.loop-place-test.true c.put_line_at-next.ensures c.next_at-place.ensures)

pub shape_of-out : goal.shape_of-out
shape_of-out c = kept c.loop-place.invariant.1.wrote

pub returns : goal.returns
returns c = passed_end c.loop-place.invariant.1 c.loop-place-test.false
