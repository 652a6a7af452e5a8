-- `abi::gcf_next` meets its contract: what stands at the place, and its fields told. Assumes nothing.
use Rattle.abi.specs.Left.{show_next}
use mathlib.Core.Path.{ap}
use Rattle.abi.proofs.gcf_next.Goals as goal

pub returns : goal.returns
unfolding show_next
returns c = rw (c.version.ensures, c.persistent.ensures, c.current.ensures)
    (ap show_next c.stands-standing.ensures)
