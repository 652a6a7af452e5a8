-- `mend::flags_mended` meets its contract: one step behind the other.
use Rattle.mend.specs.Mended.{flags_mended}
use Rattle.mend.proofs.flags_mended.Goals as goal

pub returns : goal.returns
unfolding flags_mended
returns c = cc
