-- `lent::set4` meets its contract: the four bytes that `spell` names, in one go.
use Rattle.fields.proofs.Laws.{length_spell}
use Rattle.lent.proofs.Laws.{copied_all}
use Rattle.lent.proofs.set4.Goals as goal

pub returns : goal.returns
returns c = search (copied_all, length_spell)
