-- `responder::skipped` meets its contract.
use borrow.Author.Rules.{rules}
use Rattle.refusal.proofs.First.{tests}
use Rattle.responder.specs.inner.Index.{skips}
use Rattle.responder.proofs.skipped.Goals as goal

pub returns-then-rt-ne1 : goal.returns-then-rt-ne1
unfolding skips
returns-then-rt-ne1 c = search tests

pub current-requires : goal.current-requires
unfolding skips
current-requires c = search rules

pub returns : goal.returns
unfolding skips
returns c = search (tests, ← c.current.ensures)
