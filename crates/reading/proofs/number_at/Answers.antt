-- `reading::number_at` meets its contract: the field that stands there.
use Rattle.text.specs.Reading.{number_at}
use Rattle.reading.proofs.At.{all_stand}
use borrow.Author.Rules.{rules}
use Rattle.reading.proofs.number_at.Goals as goal

pub headed-requires : goal.headed-requires
unfolding number_at
headed-requires c = search rules

pub number_in-requires : goal.number_in-requires
unfolding number_at
number_in-requires c = search all_stand

pub returns-then-headed : goal.returns-then-headed
unfolding number_at
returns-then-headed c = search rules

pub get2-requires : goal.get2-requires
unfolding number_at
get2-requires c = search rules

pub returns : goal.returns
unfolding number_at
returns c = search rules
