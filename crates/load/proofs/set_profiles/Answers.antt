-- `load::set_profiles` meets its contract: the loop carries the records that are set.
use Prim.Native.Nat.{ℕ, ◌+◌, ◌*◌, ◌/◌}
use mathlib.Core.Path.{◌≡◌, refl, ap, ◌∙◌}
use native.Mathlib.Omega.{arith}
use native.Mathlib.Nat.{div-add-mod}
use mathlib.Core.List.{List}
use lib.ListN.{length}
use Rattle.text.specs.Drive.{bit}
use Rattle.profiles.specs.Profiles.{profile_number}
use Rattle.load.specs.Load.{is_in}
use Rattle.load.specs.inner.Patch.{patched}
use Rattle.load.proofs.Patch.{length_patched, patched_more}
use Rattle.load.proofs.set_profiles.Goals as goal

-- the copy is as long as it was
long : (at : ℕ) (b list d e : List ℕ) (i : ℕ) → e ≡ patched (λ (k : ℕ). at + 4 * k + 2) (λ (k : ℕ). bit (is_in list (profile_number b k))) i d → length e ≡ length d
long at b list d e i q = ap length q ∙ length_patched (λ (k : ℕ). at + 4 * k + 2) (λ (k : ℕ). bit (is_in list (profile_number b k))) d i

pub loop-i-init : goal.loop-i-init
unfolding patched
loop-i-init c = (omega arith, refl)

pub bounds-out-at : goal.bounds-out-at
bounds-out-at c = let l = c in
    let a = l.args in
    omega (arith, long a.at a.b.now a.list.now a.out.now l.loop-i.out l.loop-i.i l.loop-i.invariant.1, div-add-mod (length a.b.now) 4, l.requires, c.loop-i-test.true)

pub loop-i-preserved : goal.loop-i-preserved
unfolding profile_number
loop-i-preserved c = let l = c in
    let a = l.args in (
      omega arith,
      patched_more (λ (k : ℕ). a.at + 4 * k + 2) (λ (k : ℕ). bit (is_in a.list.now (profile_number a.b.now k))) l.loop-i.i _ _ a.out.now l.loop-i.out _ l.loop-i.invariant.1 refl
          (ap bit (c.has.ensures ∙ ap (is_in a.list.now) c.inside2.ensures)) refl,
    )

pub shape_of-out : goal.shape_of-out
shape_of-out c = let a = c.args in
    long a.at a.b.now a.list.now a.out.now c.loop-i.out c.loop-i.i c.loop-i.invariant.1

pub returns : goal.returns
returns c = let a = c.args in
    let e : c.loop-i.i ≡ length a.b.now / 4 = omega arith in
    c.loop-i.invariant.1 ∙ ap (λ (k : ℕ). patched (λ (x : ℕ). a.at + 4 * x + 2) (λ (x : ℕ). bit (is_in a.list.now (profile_number a.b.now x))) k a.out.now) e
