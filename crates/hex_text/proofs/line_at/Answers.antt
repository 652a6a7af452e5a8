-- `hex_text::line_at` meets its contract: the loop has counted the lines passed. Assumes nothing.
use mathlib.Core.Path.{sym}
use Rattle.hex_text.proofs.Lines.{line_first, line_more, line_at_end}
use borrow.Author.Rules.{rules}
use Rattle.hex_text.proofs.line_at.Goals as goal

pub loop-k-init : goal.loop-k-init
loop-k-init c = (sym (line_first _), (search rules, search rules))

pub loop-k-preserved : goal.loop-k-preserved
loop-k-preserved c = (search line_more, (search rules, search rules))

pub returns : goal.returns
returns c = search line_at_end
