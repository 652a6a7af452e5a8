-- `rom::one_part` meets its contract: all from the place on, nothing, or the descriptor there.
use Rattle.rom.proofs.Parts.{one_all, one_other, one_it}
use Rattle.rom.proofs.one_part.Goals as goal

pub returns-then-rt-eq0 : goal.returns-then-rt-eq0
returns-then-rt-eq0 c = search one_all

pub returns-then-number-sfn : goal.returns-then-number-sfn
returns-then-number-sfn c = search one_other

pub returns : goal.returns
returns c = search one_it
