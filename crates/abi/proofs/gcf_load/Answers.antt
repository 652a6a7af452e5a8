-- `abi::gcf_load` meets its contract: what loading answers, its count and its place told. Assumes nothing.
use Rattle.abi.specs.Left.{show_made}
use mathlib.Core.Path.{ap}
use Rattle.abi.proofs.gcf_load.Goals as goal

pub returns : goal.returns
unfolding show_made
returns c = ap show_made (rw c.layout_of.ensures at c.load-leaves.ensures)
