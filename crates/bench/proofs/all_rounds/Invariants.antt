-- `bench::all_rounds` meets its contract: the loop carries the run from where it stands, the first entry and the bytes that are left, and how many of the
-- response buffer can be dirty; a refused round, or the mark that it has ended, ends it.
use mathlib.Core.Path.{◌≡◌}
use mathlib.Core.Bool.{false}
use Prim.Native.Nat.{◌-◌}
use Rattle.layout.specs.Layout.{stored}
use Rattle.sheet.specs.Meaning.{meaning}
use Rattle.responder.specs.inner.Index.{taken_from}
use Rattle.bench.specs.Bench.{buffers, state}
use Rattle.bench.proofs.Carried.{Carried}
use Rattle.bench.proofs.Loop.{Standing}
use Rattle.bench.proofs.all_rounds.Given as goal

abbrev pub invariant-loop-sweep : goal.invariant-loop-sweep
invariant-loop-sweep l = Standing (meaning (stored l.lay l.s)) (state l.initial.sweep (buffers l.initial.response l.initial.collected l.initial.starts)) (state l.sweep (buffers l.response l.collected l.starts)) × Carried (meaning (stored l.lay l.s)) (state l.sweep (buffers l.response l.collected l.starts)) l.left l.dirty
    × (l.sweep.ended ≡ false → l.from ≡ taken_from (stored l.lay l.s) l.sweep.next.0)

abbrev pub decreases-loop-sweep : goal.decreases-loop-sweep
decreases-loop-sweep l = 65537 - l.sweep.commands
