-- `lent::blocks::by64` meets its contract: block after block, and the last 64 bytes whatever stood there.
use Prim.Native.Nat.{◌≤◌, ◌-◌}
use lib.ListN.{length}
use Rattle.lent.specs.inner.Same.{Same}
use Rattle.lent.proofs.blocks.by64.Given as goal

abbrev pub invariant-loop-i : goal.invariant-loop-i
invariant-loop-i l = Same l.s l.i l.out × (l.i ≤ length l.s)

abbrev pub decreases-loop-i : goal.decreases-loop-i
decreases-loop-i l = length l.s - l.i
