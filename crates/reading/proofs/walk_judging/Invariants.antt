-- `reading::walk_judging` meets its contract: the loop carries what is left of the walk, and of the count.
use Prim.Native.Nat.{◌+◌, ◌*◌, ◌-◌, ◌≤◌}
use mathlib.Core.Path.{◌≡◌}
use lib.ListN.{length, drop}
use Rattle.text.specs.Reading.{walk}
use Rattle.reading.specs.Judged.{odd_in}
use Rattle.reading.specs.inner.Tally.{tally}
use Rattle.reading.proofs.Tally.{left}
use Rattle.reading.proofs.walk_judging.Given as goal

abbrev pub invariant-loop-at : goal.invariant-loop-at
invariant-loop-at l = (l.lengths ≡ drop 3 l.s) × (l.at ≤ length l.s) × (4 * l.count + 8 ≤ l.at) × (tally 0 8 0 (walk (length l.s) 0 0 l.end l.s 0 8) ≡ left 0 0 l.end l.s l.at l.lo l.count l.last.0)
    × (l.odds ≤ l.count) × (odd_in (walk (length l.s) 0 0 l.end l.s 0 8).found ≡ l.odds + odd_in (walk (length l.s - l.count) 0 0 l.end l.s l.lo l.at).found)

abbrev pub decreases-loop-at : goal.decreases-loop-at
decreases-loop-at l = length l.s - l.at
