-- `reading::reports` meets its contract: the loop carries what is left of the search.
use Prim.Native.Nat.{◌-◌}
use mathlib.Core.Path.{◌≡◌}
use lib.Dec.{eqb}
use lib.ListN.{length}
use Rattle.base.specs.Pick.{some}
use Rattle.reading.specs.Places.{reported, descs}
use Rattle.reading.specs.inner.Between.{from}
use Rattle.reading.proofs.Loops.{Here}
use Rattle.reading.proofs.reports.Given as goal

abbrev pub invariant-loop-at : goal.invariant-loop-at
invariant-loop-at l = Here l.s l.at × (reported l.f.0 (descs l.s) ≡ some (λ d. eqb d.number l.f.0) (from l.s l.at))

abbrev pub decreases-loop-at : goal.decreases-loop-at
decreases-loop-at l = length l.s - l.at
