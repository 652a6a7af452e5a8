-- `rom::put_response` meets its contract: two writings one after the other.
use Rattle.lent.proofs.Laws.{then}
use Rattle.rom.proofs.put_response.Goals as goal

pub returns : goal.returns
returns c = then c.put_head-a.ensures c.put_wanted.ensures
