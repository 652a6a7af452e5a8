-- `profiles::seen` meets its contract: the loop carries what was found and what is left of the search.
use borrow.Author.Rules.{rules}
use Prim.Native.Nat.{◌+◌, ◌*◌, ◌/◌, ◌%◌}
use mathlib.Core.Path.{ap}
use native.Mathlib.Omega.{arith}
use Rattle.profiles.specs.Profiles.{lists}
use Rattle.profiles.proofs.Loops.{two_go, seen_end}
use Rattle.profiles.proofs.seen.Goals as goal

pub loop-i-init : goal.loop-i-init
loop-i-init c = let a = c.args in (omega arith, ap (lists (a.wanted % 256 * 256 + a.wanted / 256) a.b.now 0) (omega arith))

pub loop-i-preserved : goal.loop-i-preserved
loop-i-preserved c = let l = c.loop-i in
    (omega arith, two_go _ l.found _ _ _ l.i l.invariant.1 _ _ c.loop-i-test.true (search rules) (search rules) c.two.ensures c.either-found.ensures)

pub returns : goal.returns
returns c = search seen_end
