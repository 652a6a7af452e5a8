-- `legal::reserved_fault` meets its contract: by the one word, or by the cases of the length.
use Rattle.legal.proofs.Reserved.{word_only, periodic_any, periodic_exactly, counted_first}
use Rattle.legal.proofs.reserved_fault.Goals as goal

pub returns-then-view-le4 : goal.returns-then-view-le4
returns-then-view-le4 c = let a = c.args in
    word_only a.row a.body.now (λ i. (c.type_inv.body i).fits) _ _ c.get4.ensures c.reserved_rule.ensures c.if-view-le4.true

pub returns-in-Any : goal.returns-in-Any
returns-in-Any c = let a = c.args in periodic_any a.row a.body.now _ c.periodic_fault.ensures c.in-Any.is

pub returns-in-Exactly : goal.returns-in-Exactly
returns-in-Exactly c = let a = c.args in periodic_exactly a.row a.body.now _ c.periodic_fault-in-Exactly.ensures _ c.in-Exactly.is

pub returns-in-Counted : goal.returns-in-Counted
returns-in-Counted c = let a = c.args in
    counted_first a.row a.body.now (λ i. (c.type_inv.body i).fits) c.in-Counted.is _ c.counted_fault.ensures
