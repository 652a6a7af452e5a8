-- `hex_text::broken` meets its contract: the state goes on, and the line is none. Assumes nothing.
use mathlib.Core.Bool.{true}
use mathlib.Core.Path.{ap}
use Rattle.hex_text.specs.declared.Effect.{Effect}
use Rattle.hex_text.proofs.broken.Goals as goal

pub returns : goal.returns
returns c = ap (λ (x : Effect). record { fault = true; spells = x.spells; byte = x.byte; state = x.state }) c.on-none.ensures
