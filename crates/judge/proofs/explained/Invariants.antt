-- `judge::explained` meets its contract: the loop carries what is left of the search, and the buffer keeps its length.
use mathlib.Core.Path.{◌≡◌}
use Prim.Native.Nat.{◌≤◌, ◌-◌}
use lib.ListN.{length}
use Rattle.layout.specs.Layout.{stored}
use Rattle.sheet.specs.Meaning.{meaning}
use Rattle.judge.specs.Verdict.{explained}
use Rattle.judge.proofs.Search.{left_at}
use Rattle.judge.proofs.explained.Given as goal

abbrev pub invariant-loop-i : goal.invariant-loop-i
invariant-loop-i l = (l.i ≤ 7) × (length l.scratch ≡ length l.initial.scratch)
    × (explained l.c.rt l.c.sfn.0 l.c.allocation (meaning (stored l.lay l.s)) l.response ≡ left_at l.c.rt l.c.sfn.0 l.c.allocation (meaning (stored l.lay l.s)) l.response l.i)

abbrev pub decreases-loop-i : goal.decreases-loop-i
decreases-loop-i l = 7 - l.i
