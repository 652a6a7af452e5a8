-- `import::put_body` meets its contract: nothing, or what stands behind the header bytes.
use Rattle.lent.proofs.Laws.{nothing}
use Rattle.import.proofs.Beside.{body_part, body_none}
use Rattle.import.proofs.put_body.Goals as goal

pub returns-then-len-eq0 : goal.returns-then-len-eq0
returns-then-len-eq0 c = rw (body_none _ _ _ c.requires.0 c.if-len-eq0.true) (nothing _ _)

pub returns : goal.returns
returns c = rw (body_part _ _ _ c.requires.0) c.place.ensures
