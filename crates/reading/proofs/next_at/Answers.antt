-- `reading::next_at` meets its contract: the two cases of the definition.
use Rattle.reading.proofs.At.{next_behind, next_inside}
use Rattle.reading.proofs.next_at.Goals as goal

pub returns-then-s-at : goal.returns-then-s-at
returns-then-s-at c = search next_behind

pub returns : goal.returns
returns c = search next_inside
