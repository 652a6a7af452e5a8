-- `sheet::halved` meets its contract: what the middle entry shows decides which end moves.
use mathlib.Core.Path.{sym}
use Rattle.sheet.proofs.Bisection.{half_above, half_below}
use native.Mathlib.Omega.{arith}
use Rattle.layout.specs.Layout.{stored}
use Rattle.sheet.proofs.halved.Goals as goal

pub returns-then-feature-sfn : goal.returns-then-feature-sfn
returns-then-feature-sfn c = let a = c.args in sym (half_above (stored a.lay a.s.now) a.sfn.0 a.low a.high (omega (arith, c.feature_at-feature.ensures, c.if-feature-sfn.true)))

pub returns : goal.returns
returns c = let a = c.args in sym (half_below (stored a.lay a.s.now) a.sfn.0 a.low a.high (omega (arith, c.feature_at-feature.ensures, c.if-feature-sfn.false)))
