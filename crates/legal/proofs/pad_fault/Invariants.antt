-- `legal::pad_fault` meets its contract: the loop carries what is left of the search.
use Prim.Native.Nat.{◌≤◌, ◌-◌}
use mathlib.Core.Path.{◌≡◌}
use lib.ListN.{length}
use Rattle.refusal.specs.First.{first_of}
use Rattle.refusal.proofs.First.{rest}
use Rattle.legal.specs.inner.Periodic.{pad_at}
use Rattle.legal.proofs.pad_fault.Given as goal

abbrev pub invariant-loop-k : goal.invariant-loop-k
invariant-loop-k l = (l.k ≤ length l.pad) × (first_of (pad_at l.pad) 0 (length l.pad) ≡ rest (pad_at l.pad) (length l.pad) l.k)

abbrev pub decreases-loop-k : goal.decreases-loop-k
decreases-loop-k l = length l.pad - l.k
