-- `hex_text::between` meets its contract: each early return is a case of the definition. Assumes nothing.
use borrow.Author.Tests.{eq-eqb, ne_eqb}
use mathlib.Core.Path.{sym, ◌∙◌}
use Rattle.hex_text.proofs.Cases.{Y, N}
use Rattle.hex_text.specs.Steps.{between}
use Rattle.hex_text.proofs.between.Goals as goal

pub returns-then-blank : goal.returns-then-blank
unfolding between
returns-then-blank c = Y _ _ _ (sym c.blank.ensures ∙ c.if-blank.true) c.space.ensures

pub returns-then-c-eq44 : goal.returns-then-c-eq44
unfolding between
returns-then-c-eq44 c = N _ _ _ (sym c.blank.ensures ∙ c.if-blank.false) (Y _ _ _ (eq-eqb _ _ c.if-c-eq44.true) c.on.ensures)

pub returns-then-c-eq124 : goal.returns-then-c-eq124
unfolding between
returns-then-c-eq124 c = N _ _ _ (sym c.blank.ensures ∙ c.if-blank.false) (N _ _ _ (ne_eqb _ _ c.if-c-eq44.false) (Y _ _ _ (eq-eqb _ _ c.if-c-eq124.true) c.bar.ensures))

pub returns : goal.returns
unfolding between
returns c = N _ _ _ (sym c.blank.ensures ∙ c.if-blank.false) (N _ _ _ (ne_eqb _ _ c.if-c-eq44.false) (N _ _ _ (ne_eqb _ _ c.if-c-eq124.false) c.broken.ensures))
