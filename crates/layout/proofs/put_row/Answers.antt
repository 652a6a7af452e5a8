-- `layout::put_row` meets its contract: four writings one after the other.
use Rattle.lent.proofs.Laws.{then}
use Rattle.layout.specs.Contents.{row_bytes}
use Rattle.layout.proofs.put_row.Goals as goal

pub returns : goal.returns
unfolding row_bytes
returns c = let k = c in
    then (then (then k.put2-a.ensures k.put-b.ensures) c.put-c.ensures) c.put4.ensures
