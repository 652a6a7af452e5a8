-- `sheet::next_from` meets its contract: the loop carries what is left of the walk, and bisection follows.
use mathlib.Core.Path.{◌≡◌}
use Rattle.layout.specs.Layout.{stored}
use Rattle.sheet.specs.inner.Search.{passing, next_from}
use Rattle.sheet.proofs.next_from.Given as goal

abbrev pub invariant-loop-left : goal.invariant-loop-left
invariant-loop-left l = next_from (stored l.lay l.s) l.n l.sfn.0 l.from ≡ passing l.left (stored l.lay l.s) l.n l.sfn.0 l.i

abbrev pub decreases-loop-left : goal.decreases-loop-left
decreases-loop-left l = l.left
