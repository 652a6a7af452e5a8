-- `legal::counted_fault` meets its contract: the first word, then the pad.
use Rattle.legal.proofs.Reserved.{counted_front, counted_pad}
use Rattle.legal.proofs.counted_fault.Goals as goal

pub returns-then-fault-ne0 : goal.returns-then-fault-ne0
returns-then-fault-ne0 c = search counted_front

pub returns : goal.returns
returns c = counted_pad _ _ _ _ c.get4.ensures c.reserved_rule-fault.ensures _ _ _
    c.if-fault-ne0.false c.byte-n.ensures c.part.ensures.holds c.pad_fault.ensures
