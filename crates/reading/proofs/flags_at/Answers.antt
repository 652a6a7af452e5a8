-- `reading::flags_at` meets its contract: the byte that stands there, 0 behind the end.
use Rattle.text.specs.Reading.{flags_at}
use Rattle.reading.proofs.At.{byte_behind, all_stand}
use borrow.Author.Rules.{rules}
use Rattle.reading.proofs.flags_at.Goals as goal

pub headed-requires : goal.headed-requires
unfolding flags_at
headed-requires c = search rules

pub flags_in-requires : goal.flags_in-requires
unfolding flags_at
flags_in-requires c = search all_stand

pub returns-then-headed : goal.returns-then-headed
unfolding flags_at
returns-then-headed c = search rules

pub returns-then-s-at : goal.returns-then-s-at
unfolding flags_at
returns-then-s-at c = search byte_behind

pub overflow_add-at : goal.overflow_add-at
unfolding flags_at
overflow_add-at c = search rules

pub byte-requires : goal.byte-requires
unfolding flags_at
byte-requires c = search rules

pub returns : goal.returns
unfolding flags_at
returns c = search rules
