-- `lent::place4` meets its contract.
use Rattle.lent.proofs.Laws.{copied_all}
use Rattle.lent.proofs.place4.Goals as goal

pub returns : goal.returns
returns c = search copied_all
