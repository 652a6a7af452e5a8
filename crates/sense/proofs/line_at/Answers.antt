-- `sense::line_at` meets its contract: the two tables are the same lines.
use borrow.Author.Rules.{rules}
use Rattle.sense.specs.Sense.{given}
use Rattle.sense.proofs.line_at.Goals as goal

pub offset_bounds-i : goal.offset_bounds-i
unfolding given
offset_bounds-i c = search rules

pub bounds-i-i : goal.bounds-i-i
unfolding given
bounds-i-i c = search rules

pub returns : goal.returns
unfolding given
returns c = search rules
