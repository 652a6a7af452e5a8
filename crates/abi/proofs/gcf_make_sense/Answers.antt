-- `abi::gcf_make_sense` meets its contract: the sense data that is made, its count and its place told. Assumes nothing.
use Rattle.abi.specs.Left.{show_made}
use mathlib.Core.Path.{ap}
use Rattle.abi.proofs.gcf_make_sense.Goals as goal

pub returns : goal.returns
unfolding show_made
returns c = ap show_made c.make-written.ensures
