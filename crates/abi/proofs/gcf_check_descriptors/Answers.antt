-- `abi::gcf_check_descriptors` meets its contract: what the check finds, and the feature told. Assumes nothing.
use Rattle.abi.specs.Left.{show_finding}
use mathlib.Core.Path.{ap}
use Rattle.abi.proofs.gcf_check_descriptors.Goals as goal

pub returns : goal.returns
unfolding show_finding
returns c = ap show_finding c.check_descriptors-finding.ensures
