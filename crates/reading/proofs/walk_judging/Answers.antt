-- `reading::walk_judging` meets its contract: the loop carries what is left of the walk, and of the count.
use borrow.Author.Rules.{rules}
use native.Mathlib.Omega.{arith}
use Rattle.reading.proofs.Tally.{lengths_cut, loop_start, loop_end, loop_fault, loop_cut, loop_more, both_judged, odds_start, odds_end, odds_fault, odds_cut, odds_more}
use Rattle.reading.proofs.walk_judging.Goals as goal

pub loop-at-init : goal.loop-at-init
loop-at-init c = (search lengths_cut, omega arith, omega arith, search loop_start, omega arith, search odds_start)

pub returns-in-Refused : goal.returns-in-Refused
returns-in-Refused c = both_judged (search loop_fault) (search odds_fault)

pub returns-then-s-behind : goal.returns-then-s-behind
returns-then-s-behind c = both_judged (search loop_cut) (search odds_cut)

pub loop-at-preserved : goal.loop-at-preserved
loop-at-preserved c = (search rules, omega arith, omega arith, search loop_more, omega arith, search odds_more)

pub returns : goal.returns
returns c = both_judged (search loop_end) (search odds_end)
