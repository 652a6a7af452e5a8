-- `responder::put_fields` meets its contract: four writings one after the other.
use Rattle.lent.proofs.Laws.{then}
use Rattle.responder.proofs.put_fields.Goals as goal

pub returns : goal.returns
returns c = let early = c in
    then (then (then early.put2-a.ensures early.put-b.ensures) c.put-c.ensures) c.copy.ensures
