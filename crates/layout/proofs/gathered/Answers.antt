-- `layout::gathered` meets its contract: two bytes are copied over a local array, and two are set.
use mathlib.Core.Path.{◌≡◌, ap, ◌∙◌}
use mathlib.Core.List.{[], ◌∷◌, ◌++◌}
use native.Mathlib.Omega.{arith}
use lib.ListN.{length, take, drop, length-take, length-drop}
use Rattle.layout.proofs.Heads.{copied, two_set}
use Rattle.layout.proofs.gathered.Goals as goal

pub returns : goal.returns
returns c = let a = c.args in
    let p = c.requires in
    let new = c.copy_from_slice.new.self in
    let e : new ≡ take 2 (drop a.number a.s.now) = copied a.s.now new a.number 2 p.0 c.copy_from_slice.ensures.after in
    let n : length new ≡ 2 = omega (arith, ap length e, length-take 2 (drop a.number a.s.now), length-drop a.number a.s.now, p.0) in
    two_set new _ _ n ∙ (λ z. e z ++ (c.inside.ensures z ∷ c.inside-2.ensures z ∷ []))
