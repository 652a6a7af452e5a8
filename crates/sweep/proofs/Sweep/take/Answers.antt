-- `sweep::Sweep::take` meets its contract: refused by the record, refused by the response, or taken.
use Rattle.sweep.proofs.Taken.{take_closed, take_refused, take_commands, take_last, take_taken}
use Rattle.sweep.proofs.Sweep.take.Goals as goal

pub returns-then-fault-ne0 : goal.returns-then-fault-ne0
returns-then-fault-ne0 c = take_closed _ _ _ _ c.closed_rule-fault.ensures c.if-fault-ne0.true _ c.refused.ensures

pub returns-then-fault-ne0-2 : goal.returns-then-fault-ne0-2
returns-then-fault-ne0-2 c = let k = c in
    take_refused _ _ _ _ k.closed_rule-fault.ensures k.if-fault-ne0.false _ c.most.ensures _ c.scan-scan.ensures _ c.scan_rule-fault.ensures
    c.if-fault-ne0-2.true _ c.refused-then-fault-ne0-2.ensures

pub moved_on-requires : goal.moved_on-requires
moved_on-requires c = (search take_commands, search take_last)

pub returns : goal.returns
returns c = let j = c in
    let k = j in
    take_taken _ _ _ _ k.closed_rule-fault.ensures k.if-fault-ne0.false _ j.most.ensures _ j.scan-scan.ensures _ j.scan_rule-fault.ensures
    j.if-fault-ne0-2.false (λ i. (k.type_inv.response i).fits) _ _ _ _ c.behind_header.ensures c.part-whole.ensures.holds c.copy-collected.ensures
    _ c.moved_on.ensures
