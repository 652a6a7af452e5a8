-- `reading::judge` meets its contract: the reading, or that it is cut, and the count of the scan.
use Rattle.reading.proofs.Flagged.{judge_refused, judge_cut, judge_whole}
use Rattle.reading.proofs.judge.Goals as goal

pub returns-then-fault-ne0 : goal.returns-then-fault-ne0
returns-then-fault-ne0 c = search judge_refused

pub returns-then-not-complete : goal.returns-then-not-complete
returns-then-not-complete c = search judge_cut

pub returns : goal.returns
returns c = search judge_whole
