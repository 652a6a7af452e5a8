-- `responder::planned` meets its contract: what its calls find.
use Rattle.responder.specs.inner.Index.{taken_from, taken_to, taken_size, plan_of}
use Rattle.responder.proofs.planned.Goals as goal

pub returns : goal.returns
unfolding plan_of taken_from taken_to taken_size
returns c = rw (c.entries_size-rest.ensures.0, c.zero_size-zero.ensures.0, c.taken-part.ensures, c.first_from-from.ensures, c.feature_count-n.ensures)
