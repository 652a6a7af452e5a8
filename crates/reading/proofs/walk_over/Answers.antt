-- `reading::walk_over` meets its contract: the loop carries what is left of the walk.
use borrow.Author.Rules.{rules}
use native.Mathlib.Omega.{arith}
use Rattle.reading.proofs.Tally.{lengths_cut, loop_start, loop_end, loop_fault, loop_cut, loop_more}
use Rattle.reading.proofs.walk_over.Goals as goal

pub loop-at-init : goal.loop-at-init
loop-at-init c = (search lengths_cut, omega arith, omega arith, search loop_start)

pub returns-in-Refused : goal.returns-in-Refused
returns-in-Refused c = search loop_fault

pub returns-then-s-next : goal.returns-then-s-next
returns-then-s-next c = search loop_cut

pub loop-at-preserved : goal.loop-at-preserved
loop-at-preserved c = (search rules, omega arith, omega arith, search loop_more)

pub returns : goal.returns
returns c = search loop_end
