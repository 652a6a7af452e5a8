-- `sense::fixed` meets its contract: the bytes are those of the definition.
use borrow.Author.Rules.{rules}
use Rattle.sense.specs.Sense.{fixed}
use Rattle.sense.proofs.fixed.Goals as goal

pub returns : goal.returns
unfolding fixed
returns c = search rules
