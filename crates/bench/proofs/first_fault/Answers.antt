-- `bench::first_fault` meets its contract: each early return is a case of the refusal.
use mathlib.Core.Path.{ap, ◌∙◌}
use Rattle.refusal.proofs.First.{tests}
use Rattle.sweep.specs.declared.Step.{Step}
use Rattle.sweep.proofs.Numbers.{start_refusal}
use Rattle.bench.specs.Bench.{first_fault}
use Rattle.bench.proofs.first_fault.Goals as goal

pub returns-then-fault-ne0 : goal.returns-then-fault-ne0
unfolding first_fault
returns-then-fault-ne0 c = search (tests, ← c.check-fault.ensures)

pub returns-then-fault-ne0-2 : goal.returns-then-fault-ne0-2
unfolding first_fault
returns-then-fault-ne0-2 c = search (tests, ← c.check-fault.ensures, ← (ap (λ (t : Step). t.refusal) c.start-step.ensures ∙ start_refusal _ _))

pub returns-then-space-most : goal.returns-then-space-most
unfolding first_fault
returns-then-space-most c = search (tests, ← c.check-fault.ensures, ← (ap (λ (t : Step). t.refusal) c.start-step.ensures ∙ start_refusal _ _), ← c.most.ensures)

pub returns : goal.returns
unfolding first_fault
returns c = search (tests, ← c.check-fault.ensures, ← (ap (λ (t : Step). t.refusal) c.start-step.ensures ∙ start_refusal _ _), ← c.most.ensures)
