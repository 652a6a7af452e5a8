-- A response as it was received: where its whole descriptors stand, and what a reading says of them. Assumes nothing.
use mathlib.Core.Path.{◌≡◌, refl, ap, ◌∙◌}
use mathlib.Core.List.{List, [], ◌∷◌, ◌++◌}
use Prim.Native.Nat.{ℕ, zero, suc, ◌+◌, ◌-◌, ◌≤◌}
use native.Mathlib.Nat.{add_assoc}
use native.Mathlib.Omega.{arith}
use lib.ListN.{length, take, drop, length-append, length-drop}
use lib.Seq.{length-take-le}
use Rattle.base.specs.Lists.{flat, Bytes}
use Rattle.base.proofs.Lists.{take_more}
use Rattle.text.specs.declared.Reading.{Reading}
use Rattle.refusal.proofs.First.{unless_none, unless_fault}
use Rattle.text.specs.Drive.{Desc, Asc}
use Rattle.text.specs.Response.{bytes}
use Rattle.text.specs.Reading.{length_at, desc_at, walk, stated_end, walked, read_fault, nothing_read, taken, reading, wholes}
use Rattle.text.proofs.Sizes.{length_bytes}
use Rattle.text.proofs.Walk.{walk_induct, read_fault_header, wholes_accepted, wholes_refused}
use Rattle.text.proofs.Again.{bytes_desc_at, walk_asc}

-- ---- a descriptor that was received whole

module _ (s : List ℕ) (at : ℕ) (h : at + 4 + length_at s at ≤ length s) where
  pub length_desc_at : length (bytes (desc_at s at)) ≡ 4 + length_at s at
  unfolding desc_at
  length_desc_at =
      let l : length_at s at ≤ length (drop (at + 4) s) = rw length-drop (omega arith) in
      length_bytes (desc_at s at) ∙ ap (λ (n : ℕ). 4 + n) (length-take-le (length_at s at) (drop (at + 4) s) l)

-- ---- where the descriptors of a walk stand, and that they ascend

-- ds stand in s whole, one behind the other, from place at on
abbrev pub Stand : List ℕ → ℕ → List Desc → Type 0
Stand s at [] = Unit {0}
Stand s at (d ∷ ds) = (d ≡ desc_at s at) × (at + 4 + length_at s at ≤ length s) × Stand s (at + 4 + length_at s at) ds

module _ (k rt sfn end : ℕ) (s : List ℕ) (lo at : ℕ) where
  pub walk_stand : Stand s at (walk k rt sfn end s lo at).found
  walk_stand =
      walk_induct rt sfn end s (λ lo at w. Stand s at w.found) (λ lo at r p. tt) (λ lo at w e h r. (refl, h, r)) k lo at

-- their bytes are those received
pub stand_flat : (s : List ℕ) (at : ℕ) (ds : List Desc) → Bytes s → Stand s at ds → flat bytes ds ≡ take (length (flat bytes ds)) (drop at s)
unfolding flat
stand_flat s at [] b h = refl
stand_flat s at (d ∷ ds) b h =
    let l : ℕ = 4 + length_at s at in
    let n : ℕ = length (flat bytes ds) in
    let x : bytes d ≡ take l (drop at s) = ap bytes h.0 ∙ bytes_desc_at s at b h.1 in
    let y : flat bytes ds ≡ take n (drop (at + l) s) = rw (← add_assoc) (stand_flat s (at + 4 + length_at s at) ds b h.2) in
    let z : length (bytes d ++ flat bytes ds) ≡ l + n =
    omega (arith, length-append (bytes d) (flat bytes ds), ap (λ (e : Desc). length (bytes e)) h.0, length_desc_at s at h.1) in
    rw (z, ← take_more s at l n, ← x, ← y)

pub stand_ends : (s : List ℕ) (at : ℕ) (ds : List Desc) → at ≤ length s → Stand s at ds → at + length (flat bytes ds) ≤ length s
unfolding flat
stand_ends s at [] l h = omega arith
stand_ends s at (d ∷ ds) l h =
    omega (
      arith,
      length-append (bytes d) (flat bytes ds),
      ap (λ (e : Desc). length (bytes e)) h.0,
      length_desc_at s at h.1,
      stand_ends s (at + 4 + length_at s at) ds h.1 h.2,
    )

-- ---- a reading that is refused, and one that is not

module _ (limit rt sfn : ℕ) (s : List ℕ) where
  module _ (k : (read_fault limit rt sfn s).number ≡ 0 → ⊥) where
    pub reading_fault : reading limit rt sfn s ≡ nothing_read (read_fault limit rt sfn s)
    unfolding reading
    reading_fault = unless_fault (read_fault limit rt sfn s) nothing_read (taken s (walked rt sfn s).found) k

  module _ (k : (read_fault limit rt sfn s).number ≡ 0) where
    pub reading_none : reading limit rt sfn s ≡ taken s (walked rt sfn s).found
    unfolding reading
    reading_none = unless_none (read_fault limit rt sfn s) nothing_read (taken s (walked rt sfn s).found) k

  -- what holds of a refused reading, and of an accepted one, holds of every reading and its whole descriptors
  pub reading_cases : (P : Reading → List Desc → Type 0)
      → (((read_fault limit rt sfn s).number ≡ 0 → ⊥) → P (nothing_read (read_fault limit rt sfn s)) [])
      → ((read_fault limit rt sfn s).number ≡ 0 → P (taken s (walked rt sfn s).found) (walked rt sfn s).found)
      → P (reading limit rt sfn s) (wholes limit rt sfn s)
  reading_cases P bad fine = go (read_fault limit rt sfn s).number refl
    where
      go : (n : ℕ) → (read_fault limit rt sfn s).number ≡ n → P (reading limit rt sfn s) (wholes limit rt sfn s)
      go zero e = rw (reading_none e, wholes_accepted limit rt sfn s e) (fine e)
      go (suc n) e =
          let k : (read_fault limit rt sfn s).number ≡ 0 → ⊥ = λ z. omega arith in
          rw (reading_fault k, wholes_refused limit rt sfn s k) (bad k)

  pub wholes_stand : Stand s 8 (wholes limit rt sfn s)
  unfolding walked
  wholes_stand = reading_cases (λ r ds. Stand s 8 ds) (λ k. tt) (λ k. walk_stand (length s) rt sfn (stated_end s) s sfn 8)

  pub wholes_asc : Asc sfn (wholes limit rt sfn s)
  unfolding walked
  wholes_asc = reading_cases (λ r ds. Asc sfn ds) (λ k. tt) (λ k. walk_asc rt sfn (stated_end s) s (length s) sfn 8)

  -- count and end are theirs
  pub reading_count : (reading limit rt sfn s).count ≡ length (wholes limit rt sfn s)
  unfolding nothing_read taken
  reading_count = reading_cases (λ r ds. r.count ≡ length ds) (λ k. refl) (λ k. refl)

  pub reading_end : (reading limit rt sfn s).end - 8 ≡ length (flat bytes (wholes limit rt sfn s))
  unfolding nothing_read taken flat
  reading_end = reading_cases (λ r ds. r.end - 8 ≡ length (flat bytes ds)) (λ k. refl) (λ k. omega arith)

  -- the end of a reading lies in what was received
  pub reading_within : (reading limit rt sfn s).end ≤ length s
  unfolding nothing_read taken read_fault walked
  reading_within =
      reading_cases (λ r ds. r.end ≤ length s) (λ k. omega arith)
      (λ k.
      let h = read_fault_header limit rt sfn s k in
      stand_ends s 8 (walked rt sfn s).found h.eight (walk_stand (length s) rt sfn (stated_end s) s sfn 8))

  -- the bytes of the whole descriptors are those received from place 8 to the end of the reading
  pub wholes_flat : Bytes s → flat bytes (wholes limit rt sfn s) ≡ take ((reading limit rt sfn s).end - 8) (drop 8 s)
  wholes_flat b = rw reading_end (stand_flat s 8 (wholes limit rt sfn s) b wholes_stand)
