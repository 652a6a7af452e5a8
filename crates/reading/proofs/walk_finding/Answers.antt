-- `reading::walk_finding` meets its contract: the loop carries what is left of the walk, and where the descriptor was found.
use borrow.Author.Rules.{rules}
use native.Mathlib.Omega.{arith}
use Rattle.reading.proofs.Tally.{lengths_cut}
use Rattle.reading.proofs.Spots.{spot_start, spot_end, spot_refused, spot_cut, spot_more}
use Rattle.reading.proofs.walk_finding.Goals as goal

pub loop-at-init : goal.loop-at-init
loop-at-init c = (search lengths_cut, omega arith, spot_start _ _ _)

pub returns-in-Refused : goal.returns-in-Refused
returns-in-Refused c = search spot_refused

pub returns-then-s-after : goal.returns-then-s-after
returns-then-s-after c = search spot_cut

pub loop-at-preserved : goal.loop-at-preserved
loop-at-preserved c = (search rules, omega arith, search spot_more)

pub returns : goal.returns
returns c = search spot_end
