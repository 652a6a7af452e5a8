-- `hex_text::is_said` meets its contract: each early return is a case of the definition. Assumes nothing.
use Prim.Native.Nat.{ℕ}
use borrow.Author.Tests.{eq-eqb, ne_eqb}
use lib.Dec.{eqb}
use mathlib.Core.Path.{refl, sym, ap, ◌∙◌}
use Rattle.hex_text.proofs.Cases.{Y, N}
use Rattle.hex_text.specs.Chars.{at, blank}
use Rattle.hex_text.specs.Front.{is_said}
use Rattle.hex_text.proofs.is_said.Goals as goal

pub returns-then-c-eq125 : goal.returns-then-c-eq125
unfolding is_said
returns-then-c-eq125 c = Y _ _ _ c.if-started.true (Y _ _ _ (eq-eqb _ _ (sym c.at-c.ensures ∙ c.if-c-eq125.true)) refl)

pub returns-then-started : goal.returns-then-started
unfolding is_said
returns-then-started c = Y _ _ _ c.if-started.true (N _ _ _ (ne_eqb _ _ (λ z. c.if-c-eq125.false (c.at-c.ensures ∙ z))) (ap (λ (v : ℕ). eqb v 117) c.at-c.ensures))

pub returns : goal.returns
unfolding is_said
returns c = N _ _ _ c.if-started.false (c.blank.ensures ∙ ap blank (c.at-c-2.ensures ∙ ap (at _) c.past-e.ensures))
