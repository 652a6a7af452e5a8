-- The answer to a request: the two ways that it ends. Assumes nothing.
use mathlib.Core.Path.{◌≡◌, refl, sym, ap, ◌∙◌}
use mathlib.Core.List.{List, ◌++◌}
use Prim.Native.Nat.{ℕ, ◌+◌, ◌≤◌, ◌<◌, min}
use native.Mathlib.Omega.{arith}
use lib.ListN.{length, take, drop, length-append, length-take}
use Rattle.base.proofs.Lists.{take_prefix}
use Rattle.refusal.specs.First.{refuse, accept}
use Rattle.lent.specs.Wrote.{Wrote}
use Rattle.lent.specs.declared.Made.{Made}
use Rattle.lent.specs.Maker.{outcome, refused, written, refusing}
use Rattle.lent.proofs.Laws.{cut}
use Rattle.lent.proofs.Maker.{written_making, makes_short, makes_made}
use Rattle.text.specs.Response.{most}
use Rattle.rom.specs.Image.{image_full, image_requested}
use Rattle.rom.specs.inner.Standing.{first_at, from_at, wanted_at, wanted, head_of}

module _ (i : List ℕ) (rt sfn a : ℕ) (d : List ℕ) (place size n : ℕ) (p : place ≡ first_at (from_at sfn i) i 8) (z : size ≡ length (wanted_at rt sfn i place))
    (is : n ≡ min (most a) (length (head_of i size) + size)) where
  full_is : head_of i size ++ wanted_at rt sfn i place ≡ image_full i rt sfn
  unfolding image_full wanted
  full_is = rw (z, p)

  due_is : length (take (most a) (image_full i rt sfn)) ≡ n
  due_is = omega (arith, is, z, length-take (most a) (image_full i rt sfn), ap length full_is, length-append (head_of i size) (wanted_at rt sfn i place))

  pub requested_short : (m : Made) → length d < n → m ≡ refused (refuse 12) → outcome m d ≡ image_requested i rt sfn a d
  unfolding image_requested refusing
  requested_short m h e =
      ap (λ (k : Made). outcome k d) e ∙ sym (makes_short accept 12 (take (most a) (image_full i rt sfn)) d refl (λ y. omega arith) (omega (arith, due_is)))

  pub requested_sent : (m : Made) (count : ℕ) (e : List ℕ) → n ≤ length d → Wrote (take n d) 0 (head_of i size ++ wanted_at rt sfn i place) count e → m ≡ written count
      → outcome m (e ++ drop n d) ≡ image_requested i rt sfn a d
  unfolding image_requested
  requested_sent m count e room w made =
      let xs : List ℕ = take (most a) (image_full i rt sfn) in
      let q : take n (image_full i rt sfn) ≡ xs = sym (take_prefix (most a) (image_full i rt sfn) ∙ ap (λ (k : ℕ). take k (image_full i rt sfn)) due_is) in
      let wrote : Wrote d 0 xs count (e ++ drop n d) = rw q at (cut room (rw full_is at w)) in
      ap (λ (k : Made). outcome k (e ++ drop n d)) made
      ∙ written_making (omega (arith, due_is)) wrote
      ∙ sym (makes_made accept 12 xs d refl (omega (arith, due_is)))
