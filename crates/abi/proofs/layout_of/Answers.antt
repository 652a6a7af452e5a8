-- `abi::layout_of` meets its contract: either layout. Assumes nothing.
use borrow.Author.Rules.{rules}
use Rattle.abi.specs.Left.{layout_of}
use Rattle.abi.proofs.layout_of.Goals as goal

pub returns-then-columns : goal.returns-then-columns
unfolding layout_of
returns-then-columns c = search rules

pub returns : goal.returns
unfolding layout_of
returns c = search rules
