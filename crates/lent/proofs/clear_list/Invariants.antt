-- `lent::clear_list` meets its contract: so many zeros were written from index 0 on.
use lib.ListN.{replicate}
use Rattle.lent.specs.Wrote.{Wrote}
use Rattle.lent.proofs.clear_list.Given as goal

abbrev pub invariant-loop-at : goal.invariant-loop-at
invariant-loop-at l = Wrote l.initial.out 0 (replicate l.at 0) l.at l.out
