-- `mend::mend` meets its contract: the refusal of the reading, 49, 50, or copy and list.
use mathlib.Core.Path.{refl}
use native.Mathlib.Omega.{arith}
use Rattle.reading.proofs.Completed.{complete_fault_here, complete_none}
use Rattle.mend.proofs.Answers.{mends_input, mends_copy, mends_list, mends_made, copied_front}
use Rattle.mend.proofs.mend.Goals as goal

pub returns-then-fault-ne0 : goal.returns-then-fault-ne0
returns-then-fault-ne0 c = mends_input _ _ _ _ (complete_fault_here _ _ c.complete-reading.ensures) c.if-fault-ne0.true _ c.refused.ensures

pub returns-then-copy-response : goal.returns-then-copy-response
returns-then-copy-response c = mends_copy _ _ _ (complete_none _ _ c.complete-reading.ensures c.if-fault-ne0.false) c.if-copy-response.true _ c.refused-then-copy-response.ensures

pub reports-removable-requires : goal.reports-removable-requires
reports-removable-requires c = complete_none _ _ c.complete-reading.ensures c.if-fault-ne0.false

pub count_all-count-requires : goal.count_all-count-requires
count_all-count-requires c = complete_none _ _ c.complete-reading.ensures c.if-fault-ne0.false

pub returns-then-list-count : goal.returns-then-list-count
returns-then-list-count c = mends_list _ _ _ (complete_none _ _ c.complete-reading.ensures c.if-fault-ne0.false)
    (λ i. omega (arith, c.type_inv.response i)) _ c.reports-removable.ensures c.if-copy-response.false
    _ c.count_all-count.ensures c.if-list-count.true _ c.refused-then-list-count.ensures

pub fix_all-changes-requires : goal.fix_all-changes-requires
fix_all-changes-requires c = let early = c in (
  complete_none _ _ early.complete-reading.ensures early.if-fault-ne0.false,
  copied_front c.copy-length.ensures early.if-copy-response.false,
)

pub returns : goal.returns
returns c = let early = c in
    mends_made _ _ _ (complete_none _ _ early.complete-reading.ensures early.if-fault-ne0.false)
    (λ i. omega (arith, early.type_inv.response i)) _ early.reports-removable.ensures early.if-copy-response.false
    _ early.count_all-count.ensures early.if-list-count.false early.copy-length.ensures c.fix_all-changes.ensures _ refl
