-- `hex_text::opened` meets its contract: the three ends in a row. Assumes nothing.
use Rattle.hex_text.specs.Front.{opened}
use borrow.Author.Rules.{rules}
use Rattle.hex_text.proofs.opened.Goals as goal

pub past-a-requires : goal.past-a-requires
unfolding opened
past-a-requires c = search rules

pub past-b-requires : goal.past-b-requires
unfolding opened
past-b-requires c = search rules

pub past-e-requires : goal.past-e-requires
unfolding opened
past-e-requires c = search rules

pub opened_at-requires : goal.opened_at-requires
unfolding opened
opened_at-requires c = search rules

pub returns : goal.returns
unfolding opened
returns c = cc
