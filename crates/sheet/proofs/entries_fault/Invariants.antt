-- `sheet::entries_fault` meets its contract: the loop carries what is left of the search, and what the entry before leaves for the next.
use Rattle.layout.specs.Layout.{stored}
use Prim.Native.Nat.{◌≤◌, ◌-◌}
use mathlib.Core.Path.{◌≡◌}
use Rattle.refusal.specs.First.{first_of}
use Rattle.refusal.proofs.First.{rest}
use Rattle.sheet.specs.Check.{number_before, end_before_entry, entry_fault}
use Rattle.sheet.proofs.entries_fault.Given as goal

abbrev pub invariant-loop-i : goal.invariant-loop-i
invariant-loop-i l = (l.i ≤ l.n) × (first_of (entry_fault (stored l.lay l.s)) 0 l.n ≡ rest (entry_fault (stored l.lay l.s)) l.n l.i) × (l.before.0 ≡ number_before (stored l.lay l.s) l.i) × (l.end ≡ end_before_entry (stored l.lay l.s) l.i)

abbrev pub decreases-loop-i : goal.decreases-loop-i
decreases-loop-i l = l.n - l.i
