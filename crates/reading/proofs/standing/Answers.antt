-- `reading::standing` meets its contract, by its two cases.
use Rattle.reading.proofs.Outcome.{stand_none, stand_there}
use Rattle.reading.proofs.standing.Goals as goal

pub returns-then-headed : goal.returns-then-headed
returns-then-headed c = search stand_there

pub returns : goal.returns
returns c = search stand_none
