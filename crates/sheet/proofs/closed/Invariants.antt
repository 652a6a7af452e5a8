-- `sheet::closed` meets its contract: the loop carries what is left of the search.
use Prim.Native.Nat.{◌-◌}
use Rattle.layout.specs.Layout.{stored}
use Rattle.sheet.proofs.Bisection.{Turning}
use Rattle.sheet.proofs.closed.Given as goal

abbrev pub invariant-loop-low : goal.invariant-loop-low
invariant-loop-low l = Turning (stored l.lay l.s) l.sfn.0 l.from l.to l.low l.high

abbrev pub decreases-loop-low : goal.decreases-loop-low
decreases-loop-low l = l.high - l.low
