-- `layout::find` meets its contract: it reads flags and length where the layout has them, and says where it has the offset.
use native.Mathlib.Omega.{arith}
use Rattle.layout.proofs.Laws.{fields_inside}
use Rattle.layout.proofs.find.Goals as goal

pub inside-requires : goal.inside-requires
inside-requires c = let a = c.args in let p = c.requires in omega (arith, (fields_inside a.nth.lay a.nth.n a.nth.i p.1).flags, p.0.1)

pub inside-length-requires : goal.inside-length-requires
inside-length-requires c = let a = c.args in let p = c.requires in omega (arith, (fields_inside a.nth.lay a.nth.n a.nth.i p.1).length, p.0.1)
