-- `text::Flags::alone` meets its contract: each way is a case of the conjunction.
use mathlib.Core.Path.{sym, ◌∙◌}
use Rattle.text.proofs.Flags.alone.Goals as goal

pub returns-then-not-persistent : goal.returns-then-not-persistent
returns-then-not-persistent c = rw (sym c.persistent.ensures ∙ c.if-not-persistent.true)

pub returns : goal.returns
returns c = rw (sym c.persistent.ensures ∙ c.if-not-persistent.false, ← c.current.ensures)
