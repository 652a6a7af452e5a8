-- `reading::number_in` meets its contract: the field that stands there.
use Rattle.text.specs.Reading.{number_at}
use borrow.Author.Rules.{rules}
use Rattle.reading.proofs.number_in.Goals as goal

pub inside2-requires : goal.inside2-requires
unfolding number_at
inside2-requires c = search rules

pub returns : goal.returns
unfolding number_at
returns c = search rules
