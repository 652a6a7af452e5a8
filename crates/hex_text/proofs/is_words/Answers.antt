-- `hex_text::is_words` meets its contract: each early return is a case of the definition. Assumes nothing.
use mathlib.Core.Path.{refl, sym, ap, ◌∙◌}
use Rattle.hex_text.proofs.Cases.{Y, N, call_lt, call_le}
use Rattle.hex_text.specs.Chars.{value, parts}
use Rattle.hex_text.specs.Front.{is_words}
use Rattle.hex_text.proofs.is_words.Goals as goal

pub returns-then-parts : goal.returns-then-parts
unfolding is_words
returns-then-parts c = Y _ _ _ (sym (c.parts.ensures ∙ ap parts c.at-c.ensures) ∙ c.if-parts.true) refl

pub returns-then-value-lt10 : goal.returns-then-value-lt10
unfolding is_words
returns-then-value-lt10 c = N _ _ _ (sym (c.parts.ensures ∙ ap parts c.at-c.ensures) ∙ c.if-parts.false) (Y _ _ _ (call_lt _ _ 10 (c.value.ensures ∙ ap value c.at-d.ensures) c.if-value-lt10.true) refl)

pub returns : goal.returns
unfolding is_words
returns c = N _ _ _ (sym (c.parts.ensures ∙ ap parts c.at-c.ensures) ∙ c.if-parts.false) (N _ _ _ (call_le _ _ 10 (c.value.ensures ∙ ap value c.at-d.ensures) c.if-value-lt10.false) c.is_said.ensures)
