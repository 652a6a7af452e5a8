-- `responder::span_size` meets its contract: ends of bodies stay below 2 ^ 32 + 256.
use native.Mathlib.Omega.{arith}
use Rattle.layout.specs.Layout.{stored}
use Rattle.responder.specs.inner.Index.{span}
use Rattle.responder.proofs.Laws.{end_low}
use Rattle.responder.proofs.span_size.Goals as goal

pub overflow_add-result : goal.overflow_add-result
overflow_add-result c = omega (arith, end_low (let a = c.args in stored a.lay a.s.now) c.args.to (λ i. omega (arith, c.type_inv.s i)))

pub returns : goal.returns
unfolding span
returns c = let k = end_low (let a = c.args in stored a.lay a.s.now) c.args.to (λ i. omega (arith, c.type_inv.s i)) in (omega arith, omega arith)
