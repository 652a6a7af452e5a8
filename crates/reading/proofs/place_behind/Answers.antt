-- `reading::place_behind` meets its contract: either answer is a case of the test.
use Rattle.refusal.proofs.First.{tests}
use Rattle.reading.proofs.place_behind.Goals as goal

pub returns-then-number-feature : goal.returns-then-number-feature
returns-then-number-feature c = search tests

pub returns : goal.returns
returns c = search tests
