-- `convert::put_laid` meets its contract: three writings one after the other.
use mathlib.Core.Path.{◌≡◌, ◌∙◌}
use Prim.Native.Nat.{◌-◌}
use native.Mathlib.Omega.{arith}
use lib.ListN.{length, take, drop, length-drop}
use lib.Seq.{take_all}
use Rattle.lent.proofs.Laws.{then}
use Rattle.layout.specs.Layout.{features, profiles_behind}
use Rattle.layout.specs.Contents.{laid}
use Rattle.convert.proofs.put_laid.Goals as goal

pub returns : goal.returns
unfolding laid
returns c = let early = c in
    let a = early.args in
    let n = early.feature_count-n in
    let at = early.profiles_behind-behind in
    let rest : take (length a.s.now - at.result) (drop at.result a.s.now) ≡ drop (profiles_behind (features a.s.now)) a.s.now =
    take_all (length a.s.now - at.result) (drop at.result a.s.now) (omega (arith, length-drop at.result a.s.now)) ∙ rw (at.ensures, n.ensures) in
    rw (← rest, ← early.part.ensures.holds, ← n.ensures)
    (then (then early.copy-a.ensures c.put_contents-b.ensures) c.copy.ensures)
