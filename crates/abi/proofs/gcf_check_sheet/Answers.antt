-- `abi::gcf_check_sheet` meets its contract: what the check answers, and its place told. Assumes nothing.
use Rattle.abi.specs.Left.{show_verdict}
use mathlib.Core.Path.{ap}
use Rattle.abi.proofs.gcf_check_sheet.Goals as goal

pub returns : goal.returns
unfolding show_verdict
returns c = ap show_verdict (rw c.layout_of.ensures at c.check-verdict.ensures)
