-- `responder::due` meets its contract: more than the most that is sent need not be counted.
use native.Mathlib.Omega.{arith}
use Rattle.responder.specs.inner.Index.{limit}
use borrow.Author.Rules.{rules}
use Rattle.responder.proofs.due.Goals as goal

pub most-most-requires : goal.most-most-requires
unfolding limit
most-most-requires c = search rules

pub least-rest-requires : goal.least-rest-requires
unfolding limit
least-rest-requires c = search rules

pub overflow_add-rest : goal.overflow_add-rest
unfolding limit
overflow_add-rest c = search rules

pub least-requires : goal.least-requires
unfolding limit
least-requires c = search rules

pub returns : goal.returns
unfolding limit
returns c = omega arith
