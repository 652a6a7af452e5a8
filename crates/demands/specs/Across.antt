-- A sweep while media go in and out: one response after the other, each from the drive as it is then. Assumes nothing: these are definitions.
use Rattle.std.specs.Prelude.{List, [], ◌∷◌, ℕ}
use Rattle.refusal.specs.First.{accept}
use Rattle.text.specs.Drive.{Drive}
use Rattle.sweep.specs.Sweep.{Turn, turn, step, fresh, stepped}
use Rattle.bench.specs.Bench.{reply}

-- the turns of a sweep that asks each of the drives once, in their order
unfoldable pub asking : List Drive → Turn → Turn
asking [] t = t
asking (m ∷ ms) t = asking ms (stepped t.step.sweep (reply m t.step.sweep) t.buffer)

-- from a fresh record, into the buffer d
unfoldable pub across : (rt a : ℕ) (d : List ℕ) → List Drive → Turn
across rt a d ms = asking ms (turn (step accept (fresh rt a)) d)
