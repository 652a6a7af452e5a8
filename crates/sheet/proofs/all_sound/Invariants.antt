-- `sheet::all_sound` meets its contract: the loop carries what all entries before the index show.
use Prim.Native.Nat.{◌≤◌, ◌-◌}
use mathlib.Core.Path.{◌≡◌}
use Rattle.layout.specs.declared.Layout.TheVariants.{Columns}
use Rattle.layout.specs.Layout.{stored}
use Rattle.sheet.specs.inner.Glance.{every, sound_at}
use Rattle.sheet.proofs.all_sound.Given as goal

abbrev pub invariant-loop-i : goal.invariant-loop-i
invariant-loop-i l = (l.i ≤ l.n) × (l.fine ≡ every (sound_at (stored Columns l.s)) l.i)

abbrev pub decreases-loop-i : goal.decreases-loop-i
decreases-loop-i l = l.n - l.i
