-- `abi::gcf_import` meets its contract: what the import answers, its count and its place told. Assumes nothing.
use Rattle.abi.specs.Left.{show_made}
use mathlib.Core.Path.{ap}
use Rattle.abi.proofs.gcf_import.Goals as goal

pub returns : goal.returns
unfolding show_made
returns c = ap show_made c.import-made.ensures
