-- `hex_text::char` meets its contract: each early return is a case of the definition. Assumes nothing.
use borrow.Author.Tests.{eq-eqb, ne_eqb}
use mathlib.Core.Path.{ap, ◌∙◌}
use Rattle.hex_text.proofs.Cases.{Y, N, call_lt, call_le}
use Rattle.hex_text.specs.Steps.{digit, char}
use Rattle.hex_text.proofs.char.Goals as goal

pub returns-then-c-eq10 : goal.returns-then-c-eq10
unfolding char
returns-then-c-eq10 c = Y _ _ _ (eq-eqb _ _ c.if-c-eq10.true) c.newline.ensures

pub returns-then-v-lt16 : goal.returns-then-v-lt16
unfolding char
returns-then-v-lt16 c = N _ _ _ (ne_eqb _ _ c.if-c-eq10.false) (Y _ _ _ (call_lt _ _ 16 c.value-v.ensures c.if-v-lt16.true) (c.digit.ensures ∙ ap (digit _) c.value-v.ensures))

pub returns : goal.returns
unfolding char
returns c = N _ _ _ (ne_eqb _ _ c.if-c-eq10.false) (N _ _ _ (call_le _ _ 16 c.value-v.ensures c.if-v-lt16.false) c.other.ensures)
