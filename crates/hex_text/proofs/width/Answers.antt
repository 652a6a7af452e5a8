-- `hex_text::width` meets its contract: each early return is a case of the definition. Assumes nothing.
use Rattle.hex_text.proofs.Cases.{tests}
use Rattle.hex_text.specs.Front.{width}
use Rattle.hex_text.proofs.width.Goals as goal

pub returns-then-c-eq58 : goal.returns-then-c-eq58
unfolding width
returns-then-c-eq58 c = search tests

pub returns : goal.returns
unfolding width
returns c = search tests
