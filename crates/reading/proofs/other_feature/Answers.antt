-- `reading::other_feature` meets its contract: each early return is a case of the test.
use Rattle.refusal.proofs.First.{tests}
use Rattle.reading.proofs.other_feature.Goals as goal

pub returns-then-rt-ne2 : goal.returns-then-rt-ne2
returns-then-rt-ne2 c = search tests

pub returns : goal.returns
returns c = search tests
