-- `load::set_features` meets its contract: the loop carries how many the entries passed meet, and their flags are set.
use Prim.Native.Nat.{ℕ}
use mathlib.Core.Path.{◌≡◌, refl, ap, ◌∙◌}
use native.Mathlib.Omega.{arith}
use lib.ListN.{length}
use Rattle.layout.specs.declared.Entry.{Entry}
use Rattle.layout.specs.Layout.{stored, flags_place}
use Rattle.layout.specs.Contents.{entry_of}
use Rattle.load.specs.inner.Beside.{met, flags_met}
use Rattle.load.specs.Load.{flags_with}
use Rattle.load.specs.inner.Patch.{patched}
use Rattle.load.proofs.Beside.{met_le, met_more, flags_met_law}
use Rattle.load.proofs.Patch.{length_patched, patched_more}
use Rattle.load.proofs.set_features.Goals as goal

pub loop-i-init : goal.loop-i-init
unfolding met patched
loop-i-init c = (omega arith, refl, c.number_at-next.ensures, refl)

pub passed-walk-requires : goal.passed-walk-requires
passed-walk-requires c = let l = c in
    let a = l.args in
    (l.loop-i.invariant.2, omega (arith, l.loop-i.invariant.1, met_le (stored a.lay a.s.now) a.list.now l.loop-i.i))

pub set_flags-requires : goal.set_flags-requires
set_flags-requires c = let l = c in
    let b = l in
    let a = b.args in
    (omega arith, omega (arith, b.requires.1, ap length l.loop-i.invariant.3, length_patched (flags_place a.lay a.n) (flags_met (stored a.lay a.s.now) a.list.now) a.out.now l.loop-i.i))

pub loop-i-preserved : goal.loop-i-preserved
unfolding entry_of
loop-i-preserved c = let s = c in
    let w = s in
    let l = w in
    let a = l.args in
    let n = ap (λ (e : Entry). e.number.0) w.entry_in-e.ensures in
    let f = ap (λ (e : Entry). e.flags.0) w.entry_in-e.ensures in (
      omega arith,
      met_more (stored a.lay a.s.now) a.list.now l.loop-i.i l.loop-i.j _ l.loop-i.next _ w.passed-walk.result.found l.loop-i.invariant.1 l.loop-i.invariant.2 n w.passed-walk.ensures.0 w.passed-walk.ensures.1,
      w.passed-walk.ensures.2,
      patched_more (flags_place a.lay a.n) (flags_met (stored a.lay a.s.now) a.list.now) l.loop-i.i _ _ a.out.now l.loop-i.out _ l.loop-i.invariant.3 refl
          (flags_met_law (stored a.lay a.s.now) a.list.now l.loop-i.i l.loop-i.j _ l.loop-i.next _ w.passed-walk.result.found l.loop-i.invariant.1 l.loop-i.invariant.2 n w.passed-walk.ensures.0 (s.flags_with.ensures ∙ ap (flags_with w.passed-walk.result.found) f))
          s.set_flags.ensures,
    )

pub shape_of-out : goal.shape_of-out
shape_of-out c = let a = c.args in
    ap length c.loop-i.invariant.3 ∙ length_patched (flags_place a.lay a.n) (flags_met (stored a.lay a.s.now) a.list.now) a.out.now c.loop-i.i

pub returns : goal.returns
returns c = let a = c.args in
    let e : c.loop-i.i ≡ a.n = omega arith in
    c.loop-i.invariant.3 ∙ ap (λ (k : ℕ). patched (flags_place a.lay a.n) (flags_met (stored a.lay a.s.now) a.list.now) k a.out.now) e
