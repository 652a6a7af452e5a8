-- `rom::wanted_size` meets its contract: the two cases of what is wanted.
use mathlib.Core.Path.{ap, ◌∙◌}
use native.Mathlib.Omega.{arith}
use lib.ListN.{length}
use Rattle.rom.proofs.Parts.{wanted_currents, wanted_one, one_most}
use Rattle.rom.proofs.wanted_size.Goals as goal

pub returns-then-rt-eq1 : goal.returns-then-rt-eq1
returns-then-rt-eq1 c = let a = c.args in
    (c.currents_size.ensures.0 ∙ ap length (wanted_currents a.rt a.sfn.0 a.image.now a.at c.if-rt-eq1.true), c.currents_size.ensures.1)

pub returns : goal.returns
returns c = let a = c.args in
    let e = ap length c.one_part-part.ensures.holds in
    (e ∙ ap length (wanted_one a.rt a.sfn.0 a.image.now a.at c.if-rt-eq1.false), omega (arith, e, one_most a.rt a.sfn.0 a.image.now a.at))
