-- `hex_text::line_at` meets its contract: the loop has counted the lines passed. Assumes nothing.
use Prim.Native.Nat.{◌+◌, ◌-◌, ◌≤◌}
use mathlib.Core.Path.{◌≡◌}
use Rattle.hex_text.specs.Chars.{line_at}
use Rattle.hex_text.proofs.line_at.Given as goal

abbrev pub invariant-loop-k : goal.invariant-loop-k
invariant-loop-k l = (l.line ≡ line_at l.s l.k) × ((l.line ≤ l.k + 1) × (l.k ≤ l.i))

abbrev pub decreases-loop-k : goal.decreases-loop-k
decreases-loop-k l = l.i - l.k
