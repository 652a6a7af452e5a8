-- `abi::gcf_stops` meets its contract: where the reading stops, told. Assumes nothing.
use Rattle.abi.specs.Left.{show_stop}
use mathlib.Core.Path.{ap}
use Rattle.abi.proofs.gcf_stops.Goals as goal

pub returns : goal.returns
unfolding show_stop
returns c = ap show_stop c.stops-stop.ensures
