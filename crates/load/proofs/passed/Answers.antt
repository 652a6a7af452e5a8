-- `load::passed` meets its contract: the feature is the one that comes next, or not.
use mathlib.Core.Path.{sym}
use native.Mathlib.Omega.{arith}
use borrow.Author.Tests.{eq-eqb, ne_eqb}
use Rattle.load.proofs.passed.Goals as goal

pub returns-then-feature-next : goal.returns-then-feature-next
returns-then-feature-next c = (sym (ne_eqb _ _ c.if-feature-next.true), omega arith, c.requires.0)

pub returns : goal.returns
returns c = (sym (eq-eqb _ _ c.if-feature-next.false), omega arith, c.number_at.ensures)
