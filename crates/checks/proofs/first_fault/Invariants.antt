-- `checks::first_fault` meets its contract: the loop carries what is left of the search.
use Prim.Native.Nat.{◌-◌}
use mathlib.Core.Bool.{not}
use mathlib.Core.Path.{◌≡◌}
use lib.Dec.{eqb}
use lib.ListN.{length}
use Rattle.base.specs.Pick.{pick}
use Rattle.reading.specs.Places.{descs}
use Rattle.reading.specs.inner.Between.{from}
use Rattle.reading.proofs.Loops.{Here}
use Rattle.refusal.specs.First.{accept}
use Rattle.checks.specs.Rules.{desc_fault}
use Rattle.checks.specs.Check.{finding, first_finding}
use Rattle.checks.proofs.first_fault.Given as goal

abbrev pub invariant-loop-at : goal.invariant-loop-at
invariant-loop-at l = Here l.s l.at × (first_finding l.removable (descs l.s) ≡ pick (λ d. not (eqb (desc_fault l.removable d).number 0)) (λ d. finding (desc_fault l.removable d) d.number) (finding accept 0) (from l.s l.at))

abbrev pub decreases-loop-at : goal.decreases-loop-at
decreases-loop-at l = length l.s - l.at
