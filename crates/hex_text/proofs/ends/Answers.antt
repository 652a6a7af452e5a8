-- `hex_text::ends` meets its contract: each early return is a case of the definition. Assumes nothing.
use Rattle.hex_text.proofs.Cases.{tests}
use Rattle.hex_text.specs.Chars.{ends}
use borrow.Author.Rules.{rules}
use Rattle.hex_text.proofs.ends.Goals as goal

pub returns-then-c-eq10 : goal.returns-then-c-eq10
unfolding ends
returns-then-c-eq10 c = (search tests, search rules)

pub returns : goal.returns
unfolding ends
returns c = (search tests, search rules)
