-- `needs::check_profile` meets its contract: the refusal, or the lowest that breaks the profile's column.
use Rattle.needs.specs.Judge.{judged}
use Rattle.needs.proofs.Judgements.{column_ascends, fault_complete, judge_refused, judge_lowest}
use Rattle.needs.proofs.check_profile.Goals as goal

pub returns-then-fault-ne0 : goal.returns-then-fault-ne0
unfolding judged
returns-then-fault-ne0 c = judge_refused _ _ _ _ _ c.column_of-column.ensures c.judge_fault-fault.ensures c.if-fault-ne0.true

pub lowest_broken-requires : goal.lowest_broken-requires
lowest_broken-requires c = (search fault_complete, rw c.column_of-column.ensures (column_ascends _))

pub returns : goal.returns
returns c = search judge_lowest
