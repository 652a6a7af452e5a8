-- `hex_text::spell` meets its contract: a line that is none, no room, or the bytes at the front. Assumes nothing.
use Rattle.hex_text.proofs.Given.{given_refused, given_short, given_made}
use Rattle.hex_text.proofs.spell.Goals as goal

pub returns-then-seen-ne0 : goal.returns-then-seen-ne0
returns-then-seen-ne0 c = given_refused c.walk-seen.ensures _ c.if-seen-ne0.true

pub returns-then-out-seen : goal.returns-then-out-seen
returns-then-out-seen c = given_short c.walk-seen.ensures _ c.if-seen-ne0.false c.if-out-seen.true

pub returns : goal.returns
returns c = given_made c.walk-seen.ensures _ c.if-seen-ne0.false c.if-out-seen.false c.walk.ensures
