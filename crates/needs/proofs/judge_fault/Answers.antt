-- `needs::judge_fault` meets its contract: each early return is a case of what refuses.
use Rattle.reading.proofs.Completed.{complete_numbered}
use Rattle.needs.proofs.Judgements.{fault_input, fault_table, fault_none}
use Rattle.needs.proofs.judge_fault.Goals as goal

pub returns-then-number-ne0 : goal.returns-then-number-ne0
returns-then-number-ne0 c = search (fault_input, complete_numbered)

pub returns-then-column-eq0 : goal.returns-then-column-eq0
returns-then-column-eq0 c = search (fault_table, complete_numbered)

pub returns : goal.returns
returns c = search (fault_none, complete_numbered)
