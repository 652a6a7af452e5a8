-- `profiles::listed` meets its contract: the loop carries what is left of the search.
use mathlib.Core.Path.{ap}
use native.Mathlib.Omega.{arith}
use Rattle.profiles.specs.Profiles.{lists}
use Rattle.profiles.proofs.Loops.{lists_stop, lists_go, lists_none}
use Rattle.profiles.proofs.listed.Goals as goal

pub loop-i-init : goal.loop-i-init
loop-i-init c = (omega arith, ap (lists c.args.number.0 c.args.b.now 0) (omega arith))

pub returns-then-inside2-number : goal.returns-then-inside2-number
returns-then-inside2-number c = search lists_stop

pub loop-i-preserved : goal.loop-i-preserved
loop-i-preserved c = (omega arith, search lists_go)

pub returns : goal.returns
returns c = search lists_none
