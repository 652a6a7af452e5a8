-- `responder::taken` meets its contract: what its calls find.
use Rattle.responder.specs.inner.Index.{plan_of}
use borrow.Author.Rules.{rules}
use Rattle.responder.proofs.taken.Goals as goal

pub feature_count-n-requires : goal.feature_count-n-requires
unfolding plan_of
feature_count-n-requires c = search rules

pub wanted_end-to-requires : goal.wanted_end-to-requires
unfolding plan_of
wanted_end-to-requires c = search rules

pub returns : goal.returns
unfolding plan_of
returns c = rw (c.wanted_end-to.ensures, c.feature_count-n.ensures)
