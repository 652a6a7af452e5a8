-- `judge::mistake_at` meets its contract: the two tables are the same.
use borrow.Author.Rules.{rules}
use Rattle.judge.specs.Boxes.{mistakes}
use Rattle.judge.proofs.mistake_at.Goals as goal

pub bounds-i-i : goal.bounds-i-i
unfolding mistakes
bounds-i-i c = search rules

pub returns : goal.returns
unfolding mistakes
returns c = search rules
