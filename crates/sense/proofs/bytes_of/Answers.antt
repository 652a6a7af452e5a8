-- `sense::bytes_of` meets its contract: the bytes of each kind are those of the definition.
use mathlib.Core.Path.{sym, ap, ◌∙◌}
use Rattle.sense.specs.Sense.{sense_of, key, code, pointer}
use Rattle.sense.proofs.bytes_of.Goals as goal

pub returns-in-Nothing : goal.returns-in-Nothing
unfolding sense_of key code pointer
returns-in-Nothing c = c.fixed.ensures ∙ ap sense_of (sym c.in-Nothing.is)

pub returns-in-Operation : goal.returns-in-Operation
unfolding sense_of key code pointer
returns-in-Operation c = c.fixed-in-Operation.ensures ∙ ap sense_of (sym c.in-Operation.is)

pub returns-in-Field : goal.returns-in-Field
unfolding sense_of key code pointer
returns-in-Field c = c.fixed-in-Field.ensures ∙ ap sense_of (sym c.in-Field.is)

pub returns-in-Trouble : goal.returns-in-Trouble
unfolding sense_of key code pointer
returns-in-Trouble c = c.fixed-in-Trouble.ensures ∙ ap sense_of (sym c.in-Trouble.is)
