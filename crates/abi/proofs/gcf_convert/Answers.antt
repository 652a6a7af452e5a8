-- `abi::gcf_convert` meets its contract: what the conversion answers, its count and its place told. Assumes nothing.
use Rattle.abi.specs.Left.{show_made}
use mathlib.Core.Path.{ap}
use Rattle.abi.proofs.gcf_convert.Goals as goal

pub returns : goal.returns
unfolding show_made
returns c = ap show_made (rw (c.layout_of.ensures, c.layout_of-2.ensures) at c.convert-laid.ensures)
