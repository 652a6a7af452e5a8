-- `abi::gcf_respond_image_accepted` meets its contract: what the box answers that does not check its image, its count and its place told. Assumes nothing.
use Rattle.abi.specs.Left.{show_made}
use mathlib.Core.Path.{ap}
use Rattle.abi.proofs.gcf_respond_image_accepted.Goals as goal

pub returns : goal.returns
unfolding show_made
returns c = ap show_made c.respond_accepted-known.ensures
