-- `descriptor::nothing_stands` meets its contract: the fields of nothing. Assumes nothing.
use Rattle.descriptor.specs.Standing.{nothing_stands}
use borrow.Author.Rules.{rules}
use Rattle.descriptor.proofs.nothing_stands.Goals as goal

pub returns : goal.returns
unfolding nothing_stands
returns c = search rules
