-- `sheet::check` meets its contract: each early return is a case of the verdict.
use native.Mathlib.Omega.{arith}
use Rattle.refusal.proofs.First.{tests}
use Rattle.sheet.specs.Check.{verdict}
use Rattle.sheet.proofs.Laws.{verdict_counted}
use Rattle.layout.specs.Layout.{stored}
use Rattle.sheet.proofs.check.Goals as goal

pub returns-then-view-lt4 : goal.returns-then-view-lt4
unfolding verdict
returns-then-view-lt4 c = search tests

pub returns-then-view-bodies_at : goal.returns-then-view-bodies_at
unfolding verdict
returns-then-view-bodies_at c = search (tests, ← c.bodies_at.ensures)

pub returns : goal.returns
returns c = cc (verdict_counted (let a = c.args in stored a.lay a.s.now) (omega arith) (omega arith))
