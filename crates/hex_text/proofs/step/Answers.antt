-- `hex_text::step` meets its contract: each early return is a case of the definition. Assumes nothing.
use Prim.Native.Nat.{ℕ}
use borrow.Author.Tests.{lt-ltb, le-ltb}
use mathlib.Core.Path.{ap, ◌∙◌}
use Rattle.hex_text.proofs.Cases.{Y, N}
use Rattle.hex_text.specs.Steps.{char, step}
use Rattle.hex_text.proofs.step.Goals as goal

pub returns-then-i-q : goal.returns-then-i-q
unfolding step
returns-then-i-q c = Y _ _ _ (lt-ltb _ _ c.if-i-q.true) c.on.ensures

pub returns : goal.returns
unfolding step
returns c = N _ _ _ (le-ltb _ _ c.if-i-q.false) (c.char.ensures ∙ ap (λ (v : ℕ). char c.args.q v c.args.s.now c.args.i) c.at-c.ensures)
