-- `load::lacking` meets its contract: the entries meet all features exactly if none is lacking; then the profiles are looked for.
use mathlib.Core.Path.{ap, ◌∙◌}
use native.Mathlib.Omega.{arith}
use Rattle.layout.specs.Layout.{stored}
use Rattle.sheet.proofs.Accepted.{facts}
use Rattle.load.specs.inner.Beside.{met}
use Rattle.load.proofs.Checked.{lacking_feature, lacking_profile}
use Rattle.load.proofs.lacking.Goals as goal

pub met-requires : goal.met-requires
met-requires c = let k = c in
    let b = k in
    let a = b.args in
    let f = facts (stored a.lay a.s.now) (λ i. (k.type_inv.s i).fits) b.requires.0 in
    ((c.feature_count.ensures, omega (arith, c.feature_count.ensures, f.room)), λ i h. let z = f.above i (omega (arith, c.feature_count.ensures)) in omega (arith, z))

pub returns-then-met-features : goal.returns-then-met-features
returns-then-met-features c = let k = c in
    let b = k in
    let a = b.args in
    lacking_feature a.features.now a.profiles.now (stored a.lay a.s.now) (λ i. (k.type_inv.s i).fits) b.requires.0 b.requires.1
    (c.met.ensures ∙ ap (met _ _) c.feature_count.ensures) c.if-met-features.true

pub returns : goal.returns
returns c = let m = c in
    let k = m in
    let b = k in
    let a = b.args in
    lacking_profile a.features.now a.profiles.now (stored a.lay a.s.now) (λ i. (k.type_inv.s i).fits) b.requires.0 b.requires.1
    (m.met.ensures ∙ ap (met _ _) m.feature_count.ensures) c.if-met-features.false (rw c.profiles_part.ensures.holds at c.lacks.ensures)
