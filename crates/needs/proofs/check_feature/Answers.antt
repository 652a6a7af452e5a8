-- `needs::check_feature` meets its contract: the refusal, or what is wrong with the feature by the profile's column.
use Rattle.needs.specs.Alone.{judged_of}
use Rattle.needs.proofs.Judgements.{fault_complete, judge_refused}
use Rattle.needs.proofs.Alone.{one_judged}
use Rattle.needs.proofs.check_feature.Goals as goal

pub returns-then-fault-ne0 : goal.returns-then-fault-ne0
unfolding judged_of
returns-then-fault-ne0 c = judge_refused _ _ _ _ _ c.column_of-column.ensures c.judge_fault-fault.ensures c.if-fault-ne0.true

pub judged_one-requires : goal.judged_one-requires
judged_one-requires c = search fault_complete

pub returns : goal.returns
returns c = search one_judged
