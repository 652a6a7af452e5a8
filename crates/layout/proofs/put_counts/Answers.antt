-- `layout::put_counts` meets its contract: two writings one after the other.
use Rattle.lent.proofs.Laws.{then}
use Rattle.layout.proofs.put_counts.Goals as goal

pub returns : goal.returns
returns c = then c.put2-second.ensures c.put2.ensures
