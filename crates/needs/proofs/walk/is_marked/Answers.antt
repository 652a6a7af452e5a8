-- `needs::walk::is_marked` meets its contract: the marks are compared.
use borrow.Author.Rules.{rules}
use Rattle.needs.specs.Required.{marked}
use Rattle.needs.proofs.walk.is_marked.Goals as goal

pub returns : goal.returns
unfolding marked
returns c = search rules
