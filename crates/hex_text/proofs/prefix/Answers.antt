-- `hex_text::prefix` meets its contract: each early return is a case of the definition. Assumes nothing.
use borrow.Author.Tests.{eq-eqb, ne_eqb}
use Rattle.hex_text.proofs.Cases.{Y, N}
use Rattle.hex_text.specs.Steps.{prefix}
use borrow.Author.Rules.{rules}
use Rattle.hex_text.proofs.prefix.Goals as goal

pub broken-requires : goal.broken-requires
unfolding prefix
broken-requires c = search rules

pub returns-then-q-ne0 : goal.returns-then-q-ne0
unfolding prefix
returns-then-q-ne0 c = N _ _ _ (ne_eqb _ _ c.if-q-ne0.true) c.broken.ensures

pub on-requires : goal.on-requires
unfolding prefix
on-requires c = search rules

pub returns-then-c-eq120 : goal.returns-then-c-eq120
unfolding prefix
returns-then-c-eq120 c = Y _ _ _ (eq-eqb _ _ c.if-q-ne0.false) (Y _ _ _ (eq-eqb _ _ c.if-c-eq120.true) c.on.ensures)

pub on-requires-then-c-eq88 : goal.on-requires-then-c-eq88
unfolding prefix
on-requires-then-c-eq88 c = search rules

pub returns-then-c-eq88 : goal.returns-then-c-eq88
unfolding prefix
returns-then-c-eq88 c = Y _ _ _ (eq-eqb _ _ c.if-q-ne0.false) (N _ _ _ (ne_eqb _ _ c.if-c-eq120.false) (Y _ _ _ (eq-eqb _ _ c.if-c-eq88.true) c.on-then-c-eq88.ensures))

pub broken-requires-2 : goal.broken-requires-2
unfolding prefix
broken-requires-2 c = search rules

pub returns : goal.returns
unfolding prefix
returns c = Y _ _ _ (eq-eqb _ _ c.if-q-ne0.false) (N _ _ _ (ne_eqb _ _ c.if-c-eq120.false) (N _ _ _ (ne_eqb _ _ c.if-c-eq88.false) c.broken-2.ensures))
