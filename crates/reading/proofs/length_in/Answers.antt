-- `reading::length_in` meets its contract: the field that stands there.
use Rattle.text.specs.Reading.{length_at}
use borrow.Author.Rules.{rules}
use Rattle.reading.proofs.length_in.Goals as goal

pub overflow_add-at : goal.overflow_add-at
unfolding length_at
overflow_add-at c = search rules

pub inside-requires : goal.inside-requires
unfolding length_at
inside-requires c = search rules

pub returns : goal.returns
unfolding length_at
returns c = search rules
