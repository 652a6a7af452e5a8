-- `sheet::all_sound` meets its contract: the loop carries what all entries before the index show.
use mathlib.Core.Path.{refl}
use native.Mathlib.Omega.{arith}
use Rattle.sheet.specs.inner.Glance.{every}
use Rattle.sheet.proofs.Glance.{every_next, every_end, read_sound}
use Rattle.sheet.proofs.all_sound.Goals as goal

pub loop-i-init : goal.loop-i-init
unfolding every
loop-i-init c = (omega arith, refl)

pub loop-i-preserved : goal.loop-i-preserved
loop-i-preserved c = (omega arith, every_next _ _ _ _ c.loop-i.invariant.1 (read_sound _ _ _ _ c.entry_in-e.ensures c.sound-fine.ensures))

pub returns : goal.returns
returns c = every_end _ _ _ _ c.loop-i.invariant.1 c.loop-i.invariant.0 (omega arith)
