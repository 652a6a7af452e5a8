-- `sense::read` meets its contract: 46 and 47, or what the bytes mean.
use mathlib.Core.List.{[]}
use mathlib.Core.Path.{sym, ap, ◌∙◌}
use Rattle.refusal.specs.declared.Refusal.{Refusal}
use Rattle.refusal.proofs.First.{unless_none, unless_fault, call_none, call_fault}
use Rattle.sense.specs.Sense.{sensed, hearing, meant, form_fault}
use Rattle.sense.proofs.read.Goals as goal

pub returns-then-fault-ne0 : goal.returns-then-fault-ne0
unfolding sensed
returns-then-fault-ne0 c = ap (λ (r : Refusal). hearing r []) c.form_fault-fault.ensures
    ∙ sym (unless_fault (form_fault _) (λ (r : Refusal). hearing r []) (meant _) (call_fault _ _ c.form_fault-fault.ensures c.if-fault-ne0.true))

pub returns : goal.returns
unfolding sensed
returns c = c.meaning.ensures
    ∙ sym (unless_none (form_fault _) (λ (r : Refusal). hearing r []) (meant _) (call_none _ _ c.form_fault-fault.ensures c.if-fault-ne0.false))
