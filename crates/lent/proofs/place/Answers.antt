-- `lent::place` meets its contract: the bytes that were cut out, where they have room.
use mathlib.Core.Path.{◌≡◌, ap, ◌∙◌}
use Prim.Native.Nat.{ℕ, ◌+◌, ◌-◌}
use native.Mathlib.Omega.{arith}
use lib.ListN.{take, drop, length-take, length-drop}
use Rattle.lent.proofs.Laws.{copied_all}
use Rattle.lent.proofs.place.Goals as goal

pub returns : goal.returns
returns c = let a = c.args in
    let n : a.from + a.count - a.from ≡ a.count = omega arith in
    copied_all a.count _ (take a.count (drop a.from a.s.now)) _ a.at (omega (arith, length-take a.count (drop a.from a.s.now), length-drop a.from a.s.now))
    (omega arith) (c.fill.ensures ∙ ap (λ (k : ℕ). take k (drop a.from a.s.now)) n)
