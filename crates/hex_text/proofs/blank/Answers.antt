-- `hex_text::blank` meets its contract: each early return is a case of the definition. Assumes nothing.
use Rattle.hex_text.proofs.Cases.{tests}
use Rattle.hex_text.specs.Chars.{blank}
use Rattle.hex_text.proofs.blank.Goals as goal

pub returns-then-c-eq32 : goal.returns-then-c-eq32
unfolding blank
returns-then-c-eq32 c = search tests

pub returns-then-c-eq9 : goal.returns-then-c-eq9
unfolding blank
returns-then-c-eq9 c = search tests

pub returns-then-c-eq13 : goal.returns-then-c-eq13
unfolding blank
returns-then-c-eq13 c = search tests

pub returns : goal.returns
unfolding blank
returns c = search tests
