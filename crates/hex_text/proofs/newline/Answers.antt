-- `hex_text::newline` meets its contract: each early return is a case of the definition. Assumes nothing.
use borrow.Author.Tests.{lt-ltb, le-ltb}
use mathlib.Core.Path.{ap, ◌∙◌}
use Rattle.hex_text.proofs.Cases.{Y, N}
use Rattle.hex_text.specs.Steps.{on, newline}
use Rattle.hex_text.specs.declared.State.{State}
use Rattle.hex_text.proofs.newline.Goals as goal

pub returns-then-q-lt16 : goal.returns-then-q-lt16
unfolding newline
returns-then-q-lt16 c = Y _ _ _ (lt-ltb _ _ c.if-q-lt16.true) c.broken.ensures

pub returns : goal.returns
unfolding newline
returns c = N _ _ _ (le-ltb _ _ c.if-q-lt16.false) (c.on.ensures ∙ ap (λ (x : State). on x) c.opened.ensures)
