-- `reading::flags_in` meets its contract: the field that stands there.
use Rattle.text.specs.Reading.{flags_at}
use borrow.Author.Rules.{rules}
use Rattle.reading.proofs.flags_in.Goals as goal

pub overflow_add-at : goal.overflow_add-at
unfolding flags_at
overflow_add-at c = search rules

pub inside-requires : goal.inside-requires
unfolding flags_at
inside-requires c = search rules

pub returns : goal.returns
unfolding flags_at
returns c = search rules
