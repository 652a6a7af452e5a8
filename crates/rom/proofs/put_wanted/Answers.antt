-- `rom::put_wanted` meets its contract: the two cases of what is wanted.
use Rattle.rom.proofs.Parts.{wanted_currents, wanted_one}
use Rattle.rom.proofs.put_wanted.Goals as goal

pub returns-then-rt-eq1 : goal.returns-then-rt-eq1
returns-then-rt-eq1 c = let a = c.args in
    rw (← wanted_currents a.rt a.sfn.0 a.image.now a.place c.if-rt-eq1.true) c.put_currents.ensures

pub returns : goal.returns
returns c = let a = c.args in
    rw (← wanted_one a.rt a.sfn.0 a.image.now a.place c.if-rt-eq1.false, ← c.one_part.ensures.holds) c.copy.ensures
