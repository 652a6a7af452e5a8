-- `reading::place_of` meets its contract: the place of the spot that was found.
use Rattle.reading.specs.inner.Spot.{spot_in}
use Rattle.reading.proofs.place_of.Goals as goal

pub returns : goal.returns
unfolding spot_in
returns c = cc c.spot_of-spot.ensures
