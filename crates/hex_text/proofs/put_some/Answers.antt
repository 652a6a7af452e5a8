-- `hex_text::put_some` meets its contract: a byte, or nothing. Assumes nothing.
use Rattle.hex_text.proofs.Puts.{some_put, some_none}
use Rattle.hex_text.proofs.put_some.Goals as goal

pub returns-then-spells : goal.returns-then-spells
returns-then-spells c = some_put _ _ _ _ _ _ c.if-spells.true c.put.ensures

pub returns : goal.returns
returns c = some_none _ _ _ _ c.if-spells.false
