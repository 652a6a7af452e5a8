-- A sweep over any responses, one after the other. Assumes nothing: these are definitions.
use Rattle.std.specs.Prelude.{true, false, List, [], ◌∷◌, ℕ, ◌+◌, eqb}
use Rattle.base.specs.Lists.{Bytes}
use Rattle.text.specs.Drive.{bit}
use Rattle.sweep.specs.declared.Sweep.{Sweep}
use Rattle.sweep.specs.declared.Step.{Step}
use Rattle.sweep.specs.Sweep.{stepped}

-- a response, honest or lying, and the collecting buffer that it is taken with
pub record Offer : Type 0 where
  pub response : List ℕ
  pub buffer : List ℕ

-- what a driver receives is bytes
abbrev pub Received : Offer → Type 0
Received o = Bytes o.response

-- the step that a record makes with one of them
abbrev pub step_with : Sweep → Offer → Step
step_with w o = (stepped w o.response o.buffer).step

-- the record after all; and how many of them are accepted
unfoldable pub sweep_over : Sweep → List Offer → Sweep
sweep_over w [] = w
sweep_over w (o ∷ os) = sweep_over (step_with w o).sweep os

unfoldable pub accepted_of : Sweep → List Offer → ℕ
accepted_of w [] = 0
accepted_of w (o ∷ os) = bit (eqb (step_with w o).refusal.number 0) + accepted_of (step_with w o).sweep os

-- the responses that are accepted
unfoldable pub taken_of : Sweep → List Offer → List (List ℕ)
taken_of w [] = []
taken_of w (o ∷ os) =
    elim (eqb (step_with w o).refusal.number 0) [
      | true ↦ o.response ∷ taken_of (step_with w o).sweep os
      | false ↦ taken_of (step_with w o).sweep os
    ]
