-- `load::met` meets its contract: the loop carries how many the entries passed meet.
use Prim.Native.Nat.{◌+◌, ◌-◌}
use mathlib.Core.Path.{◌≡◌, refl, sym, ap, ◌∙◌}
use native.Mathlib.Omega.{arith}
use Rattle.layout.specs.declared.Entry.{Entry}
use Rattle.layout.specs.Layout.{stored}
use Rattle.layout.specs.Contents.{entry_of}
use Rattle.load.specs.inner.Beside.{met}
use Rattle.load.proofs.Beside.{met_le, met_more, met_all_over}
use Rattle.load.proofs.met.Goals as goal

pub loop-i-init : goal.loop-i-init
unfolding met
loop-i-init c = (omega arith, refl, c.number_at-next.ensures)

-- all are met
pub returns-then-list-j : goal.returns-then-list-j
returns-then-list-j c = let l = c in
    let b = l in
    let a = b.args in
    let z : l.loop-i.i + (a.n - l.loop-i.i) ≡ a.n = omega (arith, l.loop-i.invariant.0) in
    l.loop-i.invariant.1 ∙ sym (met_all_over (stored a.lay a.s.now) a.list.now l.loop-i.i (a.n - l.loop-i.i) (λ j h. b.requires.1 j (omega (arith, z))) (omega (arith, l.loop-i.invariant.1, c.if-list-j.true)))
    ∙ ap (met (stored a.lay a.s.now) a.list.now) z

pub passed-walk-requires : goal.passed-walk-requires
passed-walk-requires c = let l = c in
    let a = l.args in
    (l.loop-i.invariant.2, omega (arith, l.loop-i.invariant.1, met_le (stored a.lay a.s.now) a.list.now l.loop-i.i))

pub loop-i-preserved : goal.loop-i-preserved
unfolding entry_of
loop-i-preserved c = let l = c in
    let a = l.args in
    let n = ap (λ (e : Entry). e.number.0) c.entry_in-e.ensures in (
      omega arith,
      met_more (stored a.lay a.s.now) a.list.now l.loop-i.i l.loop-i.j _ l.loop-i.next _ c.passed-walk.result.found l.loop-i.invariant.1 l.loop-i.invariant.2 n c.passed-walk.ensures.0 c.passed-walk.ensures.1,
      c.passed-walk.ensures.2,
    )

pub returns : goal.returns
returns c = let a = c.args in
    let e : c.loop-i.i ≡ a.n = omega arith in
    c.loop-i.invariant.1 ∙ ap (met (stored a.lay a.s.now) a.list.now) e
