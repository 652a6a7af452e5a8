-- `needs::walk::long_at` meets its contract: no body is longer than a byte counts, and else the body's length is compared.
use mathlib.Core.Path.{sym}
use native.Mathlib.Omega.{arith}
use Rattle.needs.specs.Judge.{is_too_long}
use Rattle.needs.proofs.Rules.{never_long}
use Rattle.needs.proofs.walk.long_at.Goals as goal

pub returns-then-longest-eq-ANY_LENGTH : goal.returns-then-longest-eq-ANY_LENGTH
returns-then-longest-eq-ANY_LENGTH c = sym (never_long _ _ _ (λ i. omega (arith, c.type_inv.s i)) c.if-longest-eq-ANY_LENGTH.true)

pub returns : goal.returns
unfolding is_too_long
returns c = search (← c.body_at-body.ensures.holds)
