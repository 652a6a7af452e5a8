-- `reading::length_at` meets its contract: the byte that stands there, 0 behind the end.
use Rattle.text.specs.Reading.{length_at}
use Rattle.reading.proofs.At.{byte_behind, all_stand}
use borrow.Author.Rules.{rules}
use Rattle.reading.proofs.length_at.Goals as goal

pub headed-requires : goal.headed-requires
unfolding length_at
headed-requires c = search rules

pub length_in-requires : goal.length_in-requires
unfolding length_at
length_in-requires c = search all_stand

pub returns-then-headed : goal.returns-then-headed
unfolding length_at
returns-then-headed c = search rules

pub returns-then-s-at : goal.returns-then-s-at
unfolding length_at
returns-then-s-at c = search byte_behind

pub overflow_add-at : goal.overflow_add-at
unfolding length_at
overflow_add-at c = search rules

pub byte-requires : goal.byte-requires
unfolding length_at
byte-requires c = search rules

pub returns : goal.returns
unfolding length_at
returns c = search rules
