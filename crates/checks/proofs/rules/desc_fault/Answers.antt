-- `checks::rules::desc_fault` meets its contract: each early return is a case of the rule.
use mathlib.Core.Path.{sym, ◌∙◌}
use Rattle.refusal.proofs.First.{faults, or_else_none, or_else_fault, call_none, call_fault}
use Rattle.checks.specs.Rules.{desc_fault}
use Rattle.checks.proofs.Other.{other_accept}
use Rattle.checks.proofs.rules.desc_fault.Goals as goal

pub returns-then-fault-ne0 : goal.returns-then-fault-ne0
unfolding desc_fault
returns-then-fault-ne0 c = search faults

pub returns-then-row : goal.returns-then-row
returns-then-row c = other_accept _ _ _ _ _ _ c.flags_fault-fault.ensures c.if-fault-ne0.false
    c.row_of-row.ensures c.if-row.true
    (λ i. (c.type_inv.body i).fits)

pub returns-then-fault-ne0-2 : goal.returns-then-fault-ne0-2
unfolding desc_fault
returns-then-fault-ne0-2 c = rw (← c.row_of-row.ensures, ← c.byte.ensures)
    (c.row_rule-fault.ensures
    ∙ sym (or_else_none _ _ (call_none _ _ c.flags_fault-fault.ensures c.if-fault-ne0.false)
    ∙ or_else_fault _ _ (call_fault _ _ c.row_rule-fault.ensures c.if-fault-ne0-2.true)))

pub returns : goal.returns
unfolding desc_fault
returns c = search (faults, ← c.row_of-row.ensures, ← c.byte.ensures)
