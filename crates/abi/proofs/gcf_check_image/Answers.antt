-- `abi::gcf_check_image` meets its contract: what the check answers, and its place told. Assumes nothing.
use Rattle.abi.specs.Left.{show_verdict}
use mathlib.Core.Path.{ap}
use Rattle.capture.proofs.Checked.{capture_refusal}
use Rattle.abi.proofs.gcf_check_image.Goals as goal

pub returns : goal.returns
unfolding show_verdict
returns c = ap show_verdict (capture_refusal _ _ c.check-capture.ensures)
