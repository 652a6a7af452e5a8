-- `hex_text::finish` meets its contract: half a byte is none. Assumes nothing.
use Rattle.hex_text.proofs.Puts.{finish_half, finish_whole}
use Rattle.hex_text.proofs.finish.Goals as goal

pub returns-then-q-lt16 : goal.returns-then-q-lt16
returns-then-q-lt16 c = search finish_half

pub returns : goal.returns
returns c = search finish_whole
