-- `mend::is_barred` meets its contract: the row bars it or not.
use Rattle.mend.proofs.Bits.{and_no, and_yes}
use borrow.Author.Tests.{not-true, not-false}
use Rattle.mend.proofs.is_barred.Goals as goal

pub returns-then-not-row : goal.returns-then-not-row
returns-then-not-row c = search (and_no, not-true)

pub returns : goal.returns
returns c = search (and_yes, not-false)
