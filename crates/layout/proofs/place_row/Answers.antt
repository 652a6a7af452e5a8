-- `layout::place_row` meets its contract: the four bytes, then the offset.
use Rattle.lent.proofs.Laws.{then}
use Rattle.layout.proofs.place_row.Goals as goal

pub returns : goal.returns
returns c = search then
