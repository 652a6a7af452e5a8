-- `reading::read` meets its contract: the reading of a scan.
use Rattle.reading.specs.Scan.{scanned}
use Rattle.reading.proofs.read.Goals as goal

pub returns : goal.returns
unfolding scanned
returns c = cc c.scan-scan.ensures
