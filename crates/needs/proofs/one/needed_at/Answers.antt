-- `needs::one::needed_at` meets its contract: the descriptor fits, or this is wrong with it.
use Rattle.needs.proofs.Alone.{needed_fits, needed_lacks}
use Rattle.needs.proofs.one.needed_at.Goals as goal

pub returns-in-Fits : goal.returns-in-Fits
returns-in-Fits c = search needed_fits

pub returns-in-Lacks : goal.returns-in-Lacks
returns-in-Lacks c = search needed_lacks
