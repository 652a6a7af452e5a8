-- `abi::gcf_read` meets its contract: what the reading gives, told. Assumes nothing.
use Rattle.abi.specs.Left.{show_read}
use mathlib.Core.Path.{ap}
use Rattle.abi.proofs.gcf_read.Goals as goal

pub returns : goal.returns
unfolding show_read
returns c = ap show_read c.read-reading.ensures
