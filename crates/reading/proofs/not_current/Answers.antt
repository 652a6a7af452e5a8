-- `reading::not_current` meets its contract: each early return is a case of the test.
use Rattle.refusal.proofs.First.{tests}
use Rattle.reading.proofs.not_current.Goals as goal

pub returns-then-rt-ne1 : goal.returns-then-rt-ne1
returns-then-rt-ne1 c = search tests

pub returns : goal.returns
returns c = search (tests, c.current.ensures)
