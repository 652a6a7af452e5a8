-- `text::Flags::reserved_fault` meets its contract: each way is a case of the rule.
use Rattle.refusal.proofs.First.{tests}
use Rattle.text.proofs.Flags.reserved_fault.Goals as goal

pub returns-then-reserved-ne0 : goal.returns-then-reserved-ne0
returns-then-reserved-ne0 c = search (tests, ← c.reserved.ensures)

pub returns : goal.returns
returns c = search (tests, ← c.reserved.ensures)
