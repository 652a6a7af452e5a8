-- `reading::held_in` meets its contract: the part at the place that was found.
use Rattle.reading.proofs.Rest.{part_held}
use Rattle.reading.proofs.held_in.Goals as goal

pub returns : goal.returns
returns c = part_held _ _ _ _ (λ i. (c.type_inv.s i).fits) c.spot_of-spot.ensures c.part.ensures
