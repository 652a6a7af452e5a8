-- `hex_text::skip` meets its contract: each early return is a case of the definition. Assumes nothing.
use Prim.Native.Nat.{ℕ}
use mathlib.Core.Path.{ap, ◌∙◌}
use Rattle.hex_text.specs.Steps.{on, skipping}
use Rattle.hex_text.proofs.skip.Goals as goal

pub returns : goal.returns
returns c = c.on.ensures ∙ ap (λ (w : ℕ). on (skipping c.args.q w)) c.past.ensures
