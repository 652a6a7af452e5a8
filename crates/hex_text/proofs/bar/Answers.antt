-- `hex_text::bar` meets its contract: each early return is a case of the definition. Assumes nothing.
use borrow.Author.Tests.{eq-eqb, ne_eqb}
use Rattle.hex_text.proofs.Cases.{Y, N}
use Rattle.hex_text.specs.Steps.{bar}
use borrow.Author.Rules.{rules}
use Rattle.hex_text.proofs.bar.Goals as goal

pub skip-requires : goal.skip-requires
unfolding bar
skip-requires c = search rules

pub returns-then-q-eq3 : goal.returns-then-q-eq3
unfolding bar
returns-then-q-eq3 c = Y _ _ _ (eq-eqb _ _ c.if-q-eq3.true) c.skip.ensures

pub broken-requires : goal.broken-requires
unfolding bar
broken-requires c = search rules

pub returns : goal.returns
unfolding bar
returns c = N _ _ _ (ne_eqb _ _ c.if-q-eq3.false) c.broken.ensures
