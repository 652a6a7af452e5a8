-- `reading::walk_number` meets its contract: the loop carries what is left of the walk.
use borrow.Author.Rules.{rules}
use native.Mathlib.Omega.{arith}
use Rattle.reading.proofs.Tally.{lengths_cut}
use Rattle.reading.proofs.Going.{numbered_start, numbered_end, numbered_fault, numbered_more}
use Rattle.reading.proofs.walk_number.Goals as goal

pub loop-at-init : goal.loop-at-init
loop-at-init c = (search lengths_cut, omega arith, numbered_start _ _)

pub returns-in-Refused : goal.returns-in-Refused
returns-in-Refused c = search numbered_fault

pub loop-at-preserved : goal.loop-at-preserved
loop-at-preserved c = (search rules, omega arith, search numbered_more)

pub returns : goal.returns
returns c = search numbered_end
