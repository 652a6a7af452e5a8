-- A response has a descriptor whole exactly where its bytes there are not none. Assumes nothing.
use mathlib.Core.Path.{◌≡◌, refl}
use mathlib.Core.Bool.{true, false}
use mathlib.Core.List.{List, [], ◌∷◌}
use Prim.Native.Nat.{ℕ, ◌<◌}
use native.Mathlib.Omega.{arith}
use lib.ListN.{length, length-append}
use denote.Ref.{Bor}
use borrow.Author.Tests.{lt-ltb, le-ltb}
use Rattle.base.specs.Lists.{flat, keep}
use Rattle.text.specs.Drive.{Desc}
use Rattle.text.specs.Response.{bytes}
use Rattle.reading.specs.Places.{descs}
use Rattle.text.proofs.Sizes.{length_bytes}
use Rattle.reading.specs.Held.{is_of, held_in, from_fresh, held_of, source, HeldIn, HeldOf}

some : (ds : List Desc) → (length (flat bytes ds) ≡ 0 → ⊥) → 0 < length ds
unfolding flat
some [] h = absurd (h refl)
some (d ∷ ds) h = omega arith

none : (ds : List Desc) → length (flat bytes ds) ≡ 0 → length ds ≡ 0
unfolding flat
none [] h = refl
none (d ∷ ds) h = absurd (omega (arith, length-append (bytes d) (flat bytes ds), length_bytes d))

module _ (f : ℕ) (fresh part : List ℕ) (q : part ≡ held_in f fresh) where
  from_fresh_here : (length part ≡ 0 → ⊥) → from_fresh f fresh ≡ true
  unfolding held_in from_fresh
  from_fresh_here h =
      let ds : List Desc = keep (is_of f) (descs fresh) in
      lt-ltb 0 (length ds) (some ds (rw (← q) h))

  from_kept : length part ≡ 0 → from_fresh f fresh ≡ false
  unfolding held_in from_fresh
  from_kept h =
      let ds : List Desc = keep (is_of f) (descs fresh) in
      let e : length ds ≡ 0 = none ds (rw (← q) h) in
      le-ltb 0 (length ds) (omega arith)

module _ (f : ℕ) (fresh kept part : List ℕ) (q : part ≡ held_in f fresh) where
  pub held_fresh : (length part ≡ 0 → ⊥) → part ≡ held_of f fresh kept
  unfolding held_of
  held_fresh h = rw (from_fresh_here f fresh part q h, held_of) q

  pub held_kept : length part ≡ 0 → held_in f kept ≡ held_of f fresh kept
  unfolding held_of
  held_kept h = rw (from_kept f fresh part q h, held_of)

-- the same of the parts
module _ (f : ℕ) (fresh kept part : Bor (List ℕ)) (q : HeldIn f fresh part) where
  pub part_fresh : (length part.now ≡ 0 → ⊥) → HeldOf f fresh kept part
  unfolding held_of source
  part_fresh h = rw (from_fresh_here f fresh.now part.now q.holds h, held_of, source) q

  pub part_kept : length part.now ≡ 0 → (r : Bor (List ℕ)) → HeldIn f kept r → HeldOf f fresh kept r
  unfolding held_of source
  part_kept h r p = rw (from_kept f fresh.now part.now q.holds h, held_of, source) p
