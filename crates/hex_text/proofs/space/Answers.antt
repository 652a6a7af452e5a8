-- `hex_text::space` meets its contract: each early return is a case of the definition. Assumes nothing.
use borrow.Author.Tests.{eq-eqb, ne_eqb}
use Rattle.hex_text.proofs.Cases.{Y, N}
use Rattle.hex_text.specs.Steps.{space}
use Rattle.hex_text.proofs.space.Goals as goal

pub returns-then-left-eq0 : goal.returns-then-left-eq0
unfolding space
returns-then-left-eq0 c = Y _ _ _ (eq-eqb _ _ c.if-left-eq0.true) c.on.ensures

pub returns-then-left-eq1 : goal.returns-then-left-eq1
unfolding space
returns-then-left-eq1 c = N _ _ _ (ne_eqb _ _ c.if-left-eq0.false) (Y _ _ _ (eq-eqb _ _ c.if-left-eq1.true) c.skip.ensures)

pub returns : goal.returns
unfolding space
returns c = N _ _ _ (ne_eqb _ _ c.if-left-eq0.false) (N _ _ _ (ne_eqb _ _ c.if-left-eq1.false) c.on-2.ensures)
