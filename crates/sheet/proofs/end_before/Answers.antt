-- `sheet::end_before` meets its contract.
use native.Mathlib.Omega.{arith}
use Rattle.sheet.specs.Check.{end_before_entry}
use Rattle.sheet.proofs.Laws.{end_before}
use Rattle.layout.specs.Layout.{stored}
use Rattle.sheet.proofs.end_before.Goals as goal

pub returns-then-i-eq0 : goal.returns-then-i-eq0
unfolding end_before_entry
returns-then-i-eq0 c = rw c.if-i-eq0.true c.bodies_at.ensures

pub returns : goal.returns
returns c = let a = c.args in omega (arith, end_before (stored a.lay a.s.now) a.i c.if-i-eq0.false)
