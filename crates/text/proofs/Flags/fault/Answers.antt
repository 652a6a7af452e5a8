-- `text::Flags::fault` meets its contract: each early return is a case of the rule.
use Rattle.refusal.proofs.First.{faults}
use Rattle.text.specs.Flags.{flags_giving}
use Rattle.text.proofs.Flags.fault.Goals as goal

pub returns-then-fault-ne0 : goal.returns-then-fault-ne0
unfolding flags_giving
returns-then-fault-ne0 c = search faults

pub returns : goal.returns
unfolding flags_giving
returns c = search faults
