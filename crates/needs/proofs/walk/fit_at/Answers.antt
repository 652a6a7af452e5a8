-- `needs::walk::fit_at` meets its contract: a line that asks for its feature only, and what is said of flags and body.
use mathlib.Core.Path.{sym, ◌∙◌}
use native.Mathlib.Omega.{arith}
use Rattle.text.specs.Reading.{desc_at}
use Rattle.needs.specs.Judge.{desc_wrong}
use Rattle.needs.proofs.Rules.{asked_nothing}
use Rattle.needs.proofs.walk.fit_at.Goals as goal

pub returns-then-asks_nothing : goal.returns-then-asks_nothing
returns-then-asks_nothing c = sym (asked_nothing _ _ _ _ (λ i. omega (arith, c.type_inv.s i)) (sym c.asks_nothing.ensures ∙ c.if-asks_nothing.true))

pub returns : goal.returns
unfolding desc_wrong desc_at
returns c = rw (← c.body_at-body.ensures.holds, ← c.byte.ensures, ← c.flags_at-flags.ensures) c.fit_rule.ensures
