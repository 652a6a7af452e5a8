-- `needs::one::judged_in` meets its contract: the loop carries what is left of the search.
use Prim.Native.Nat.{◌-◌}
use mathlib.Core.Path.{◌≡◌}
use lib.ListN.{length}
use Rattle.reading.specs.Places.{descs}
use Rattle.reading.specs.inner.Between.{from}
use Rattle.needs.specs.Judge.{desc_of, wrong_of}
use Rattle.needs.specs.inner.Alone.{line_list, says_one}
use Rattle.needs.proofs.one.judged_in.Given as goal

abbrev pub invariant-loop-at : goal.invariant-loop-at
invariant-loop-at l = says_one l.feature.0 (wrong_of l.column.2 (line_list l.column.1 l.need) (desc_of l.feature.0 (descs l.s)))
    ≡ says_one l.feature.0 (wrong_of l.column.2 (line_list l.column.1 l.need) (desc_of l.feature.0 (from l.s l.at)))

abbrev pub decreases-loop-at : goal.decreases-loop-at
decreases-loop-at l = length l.s - l.at
