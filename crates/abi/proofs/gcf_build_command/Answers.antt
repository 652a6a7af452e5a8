-- `abi::gcf_build_command` meets its contract: the command that is made, its count and its place told. Assumes nothing.
use Rattle.abi.specs.Left.{show_made}
use mathlib.Core.Path.{ap}
use Rattle.abi.proofs.gcf_build_command.Goals as goal

pub returns : goal.returns
unfolding show_made
returns c = ap show_made c.build-built.ensures
