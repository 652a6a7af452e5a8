-- `rom::agrees` meets its contract: the two cases of the definition.
use Rattle.rom.proofs.Parts.{agrees_yes, agrees_no}
use Rattle.rom.proofs.agrees.Goals as goal

pub returns-then-on : goal.returns-then-on
returns-then-on c = search agrees_yes

pub returns : goal.returns
returns c = search agrees_no
