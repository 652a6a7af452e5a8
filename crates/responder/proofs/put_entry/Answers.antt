-- `responder::put_entry` meets its contract: the fields stand where the layout has them.
use Rattle.responder.specs.inner.Index.{desc_bytes}
use Rattle.responder.proofs.put_entry.Goals as goal

pub returns : goal.returns
unfolding desc_bytes
returns c = rw (← c.feature_at-feature.ensures, ← c.flags_at-flags.ensures, ← c.length_at-length.ensures, ← c.offset_at.ensures, ← c.part-body.ensures.holds)
    c.put_fields.ensures
