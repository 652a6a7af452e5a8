-- `layout::put_each` meets its contract: whatever bytes the writer writes of an entry, the loop has written those of the entries passed.
use mathlib.Core.List.{List}
use Prim.Native.Nat.{ℕ}
use Rattle.base.specs.Lists.{each, flat}
use Rattle.lent.specs.Wrote.{Wrote}
use Rattle.layout.specs.declared.Entry.{Entry}
use Rattle.layout.specs.Layout.{stored}
use Rattle.layout.specs.Contents.{entry_of}
use Rattle.layout.proofs.put_each.Given as goal

abbrev pub invariant-loop-i : goal.invariant-loop-i
invariant-loop-i g l =
    (bytes : Entry → List ℕ) → ((o : _) (a : _) (e : _) (r : _) (q : _) → goal.F-post g l.put o a e r q → Wrote o.now a (bytes e) r q.now)
    → Wrote l.initial.out l.at (flat bytes (each (entry_of (stored l.lay l.s)) 0 l.i)) l.next l.out
