-- `sense::form_fault` meets its contract: each early return is a case of the definition.
use Rattle.refusal.proofs.First.{tests}
use borrow.Author.Rules.{rules}
use Rattle.sense.specs.Sense.{form_fault}
use Rattle.sense.proofs.form_fault.Goals as goal

pub returns-then-s-ne-LENGTH : goal.returns-then-s-ne-LENGTH
unfolding form_fault
returns-then-s-ne-LENGTH c = search tests

pub byte-requires : goal.byte-requires
unfolding form_fault
byte-requires c = search rules

pub returns-then-byte-ne-RESPONSE_CODE : goal.returns-then-byte-ne-RESPONSE_CODE
unfolding form_fault
returns-then-byte-ne-RESPONSE_CODE c = search (tests, ← c.byte.ensures)

pub returns : goal.returns
unfolding form_fault
returns c = search (tests, ← c.byte.ensures)
