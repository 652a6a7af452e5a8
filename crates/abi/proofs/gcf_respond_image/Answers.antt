-- `abi::gcf_respond_image` meets its contract: what the box with an image answers, its count and its place told. Assumes nothing.
use Rattle.abi.specs.Left.{show_made}
use mathlib.Core.Path.{ap}
use Rattle.abi.proofs.gcf_respond_image.Goals as goal

pub returns : goal.returns
unfolding show_made
returns c = ap show_made c.respond-sent.ensures
