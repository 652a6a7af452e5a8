-- `sheet::sound` meets its contract.
use Rattle.refusal.proofs.First.{tests}
use Rattle.sheet.specs.inner.Glance.{sound}
use Rattle.sheet.proofs.sound.Goals as goal

pub returns-then-fault-ne0 : goal.returns-then-fault-ne0
unfolding sound
returns-then-fault-ne0 c = search (tests, ← c.flags_rule-fault.ensures)

pub returns : goal.returns
unfolding sound
returns c = search (tests, ← c.flags_rule-fault.ensures)
