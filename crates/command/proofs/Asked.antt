-- A command that was looked at and read: what is answered to it is what is defined for any command. Assumes nothing.
use mathlib.Core.Path.{◌≡◌, sym, ap, ◌∙◌}
use mathlib.Core.List.{List}
use Prim.Native.Nat.{ℕ}
use Rattle.refusal.specs.declared.Refusal.{Refusal}
use Rattle.refusal.specs.First.{unless}
use Rattle.refusal.proofs.First.{unless_none}
use Rattle.lent.specs.Maker.{Outcome, refusing}
use Rattle.command.specs.declared.Command.{Command}
use Rattle.command.specs.Command.{rt_of, sfn_of, allocation_of, command_fault, command_of}

-- nothing of the command c is refused, it is read as k, and the outcome o is what f makes of k
pub asked_unless : (c d : List ℕ) {fault : Refusal} {k : Command} {o : Outcome} (f : (rt sfn a : ℕ) → Outcome)
    → fault ≡ command_fault c → fault.number ≡ 0 → k ≡ command_of c → o ≡ f k.rt k.sfn.0 k.allocation
    → o ≡ unless (command_fault c) (refusing d) (f (rt_of c) (sfn_of c) (allocation_of c))
unfolding command_of
asked_unless c d f looked none is_read e =
    e ∙ ap (λ (k : Command). f k.rt k.sfn.0 k.allocation) is_read
    ∙ sym (unless_none (command_fault c) (refusing d) _ (sym (ap (λ (r : Refusal). r.number) looked) ∙ none))
