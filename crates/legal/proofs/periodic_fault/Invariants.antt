-- `legal::periodic_fault` meets its contract: the loop carries what is left of the search, twelve bytes at a time.
use Prim.Native.Nat.{◌≤◌, ◌-◌, ◌%◌}
use mathlib.Core.Path.{◌≡◌}
use lib.ListN.{length}
use Rattle.base.specs.Lists.{Bytes}
use Rattle.refusal.specs.First.{first_of}
use Rattle.refusal.proofs.First.{rest}
use Rattle.legal.specs.inner.Periodic.{periodic_at}
use Rattle.legal.proofs.periodic_fault.Given as goal

abbrev pub invariant-loop-k : goal.invariant-loop-k
invariant-loop-k l = (l.k ≤ length l.body) × (l.k % 12 ≡ 0) × Bytes l.body × (first_of (periodic_at l.masks l.body) 0 (length l.body) ≡ rest (periodic_at l.masks l.body) (length l.body) l.k)

abbrev pub decreases-loop-k : goal.decreases-loop-k
decreases-loop-k l = length l.body - l.k
