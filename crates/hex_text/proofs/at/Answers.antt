-- `hex_text::at` meets its contract: the character, or the end of a line behind the text. Assumes nothing.
use Rattle.hex_text.proofs.Cases.{tests}
use Rattle.hex_text.specs.Chars.{at}
use borrow.Author.Rules.{rules}
use Rattle.hex_text.proofs.at.Goals as goal

pub bounds-s-i : goal.bounds-s-i
unfolding at
bounds-s-i c = search rules

pub returns-then-i-s : goal.returns-then-i-s
unfolding at
returns-then-i-s c = search tests

pub returns : goal.returns
unfolding at
returns c = search tests
