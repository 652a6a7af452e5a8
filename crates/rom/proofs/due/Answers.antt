-- `rom::due` meets its contract: more than the most that is sent need not be counted.
use native.Mathlib.Omega.{arith}
use mathlib.Core.Path.{ap}
use lib.ListN.{length}
use Rattle.rom.proofs.Parts.{head_length}
use Rattle.rom.proofs.due.Goals as goal

pub returns : goal.returns
returns c = let a = c.args in
    omega (arith, head_length a.image.now a.size, ap length c.part-rest.ensures.holds)
