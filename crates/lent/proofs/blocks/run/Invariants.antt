-- `lent::blocks::run` meets its contract: block after block.
use Prim.Native.Nat.{◌+◌, ◌*◌}
use Rattle.lent.specs.inner.Same.{Same}
use Rattle.lent.proofs.blocks.run.Given as goal

abbrev pub invariant-loop-k : goal.invariant-loop-k
invariant-loop-k g l = Same l.s (l.i + l.k * 16) l.out
