-- `legal::wrong_length` meets its contract: each way is a case of the rule.
use borrow.Author.Tests.{eq-eqb, ne_eqb}
use mathlib.Core.Path.{sym, ◌∙◌}
use Rattle.legal.specs.Bodies.{wrong_length}
use Rattle.base.proofs.Bools.{or_no}
use Rattle.legal.proofs.wrong_length.Goals as goal

pub returns-then-version-eq0 : goal.returns-then-version-eq0
unfolding wrong_length
returns-then-version-eq0 c = rw (← c.version.ensures, eq-eqb _ _ c.if-version-eq0.true, wrong_length) c.other_length.ensures

pub returns : goal.returns
unfolding wrong_length
returns c = rw (← c.version.ensures, ne_eqb _ _ c.if-version-eq0.false, wrong_length) (c.too_short.ensures ∙ sym (or_no _))
