-- `abi::gcf_mend` meets its contract: what the mending answers, its two counts told. Assumes nothing.
use Rattle.abi.specs.Left.{show_mended}
use mathlib.Core.Path.{ap}
use Rattle.abi.proofs.gcf_mend.Goals as goal

pub returns : goal.returns
unfolding show_mended
returns c = ap show_mended c.mend-mended.ensures
