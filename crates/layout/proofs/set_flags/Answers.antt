-- `layout::set_flags` meets its contract: the flags stand inside the contents.
use native.Mathlib.Omega.{arith}
use Rattle.layout.proofs.Laws.{fields_inside}
use Rattle.layout.proofs.set_flags.Goals as goal

pub bounds-out-at : goal.bounds-out-at
bounds-out-at c = let a = c.args in
    omega (arith, (fields_inside a.nth.lay a.nth.n a.nth.i c.requires.0).flags, c.requires.1, c.flags_place-at.ensures)
