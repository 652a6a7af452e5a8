-- `import::put_features` meets its contract: what the buffer holds in the end is told by what it holds at each turn.
use mathlib.Core.Path.{◌≡◌}
use Prim.Native.Nat.{◌+◌, ◌-◌}
use lib.ListN.{length}
use lib.Seq.{sets}
use Rattle.reading.specs.inner.Between.{from}
use Rattle.import.specs.inner.Pieces.{rows, bodies}
use Rattle.import.proofs.Beside.{Passed}
use Rattle.import.proofs.put_features.Given as goal

abbrev pub invariant-loop-place : goal.invariant-loop-place
invariant-loop-place l = Passed l.s (l.body + length (bodies (from l.s l.first))) (sets (sets l.initial.sheet l.entries (rows l.body (from l.s l.first))) l.body (bodies (from l.s l.first))) l.entry l.next l.place l.sheet
    × (length l.sheet ≡ length l.initial.sheet)

abbrev pub decreases-loop-place : goal.decreases-loop-place
decreases-loop-place l = length l.s - l.place
