-- `reading::body_at` meets its contract: the part behind the four header bytes.
use Rattle.text.specs.Reading.{desc_at}
use Rattle.reading.proofs.At.{body_behind}
use Rattle.reading.proofs.body_at.Goals as goal

pub returns-then-s-at : goal.returns-then-s-at
returns-then-s-at c = search body_behind

pub returns : goal.returns
unfolding desc_at
returns c = rw (← c.length_at.ensures) c.part-2.ensures
