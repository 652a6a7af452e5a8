-- `capture::check` meets its contract: the refusal, or the count of what was read.
use native.Mathlib.Omega.{arith}
use Rattle.capture.proofs.Checked.{judged_parts, check_refused, check_count, check_accepted}
use Rattle.capture.proofs.check.Goals as goal

pub capture_fault-fault-requires : goal.capture_fault-fault-requires
capture_fault-fault-requires c = judged_parts _ _ c.judge-judged.ensures

pub returns-then-fault-ne0 : goal.returns-then-fault-ne0
returns-then-fault-ne0 c = check_refused _ _ (judged_parts _ _ c.judge-judged.ensures).0 _ c.capture_fault-fault.ensures c.if-fault-ne0.true

pub overflow_sub-result : goal.overflow_sub-result
overflow_sub-result c = (check_count _ _ (judged_parts _ _ c.judge-judged.ensures).0 _ c.capture_fault-fault.ensures c.if-fault-ne0.false).0

pub overflow_cast-result : goal.overflow_cast-result
overflow_cast-result c = omega (arith, (check_count _ _ (judged_parts _ _ c.judge-judged.ensures).0 _ c.capture_fault-fault.ensures c.if-fault-ne0.false).1)

pub returns : goal.returns
returns c = check_accepted _ _ (judged_parts _ _ c.judge-judged.ensures).0 _ c.capture_fault-fault.ensures c.if-fault-ne0.false
