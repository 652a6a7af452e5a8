-- The places of an accepted capture's descriptors, and the answer of the check. Assumes nothing.
use mathlib.Core.Path.{◌≡◌, refl, sym, ap, ◌∙◌}
use mathlib.Core.List.{List, [], ◌∷◌}
use Prim.Native.Nat.{ℕ, zero, suc, ◌+◌, ◌-◌, ◌*◌, ◌≤◌, ◌<◌}
use native.Mathlib.Omega.{arith}
use lib.ListN.{length, length-append}
use Rattle.base.specs.Lists.{flat}
use Rattle.refusal.specs.declared.Refusal.{Refusal}
use Rattle.refusal.specs.First.{accept}
use Rattle.refusal.proofs.First.{unless_none, unless_fault}
use Rattle.text.specs.declared.Reading.{Reading}
use Rattle.text.specs.Drive.{Desc}
use Rattle.text.specs.Response.{bytes}
use Rattle.text.specs.Reading.{desc_at}
use Rattle.text.proofs.Sizes.{length_bytes}
use Rattle.text.proofs.Received.{reading_count}
use Rattle.reading.specs.Places.{descs}
use Rattle.reading.specs.Completed.{completed}
use Rattle.reading.specs.declared.Judged.{Judged}
use Rattle.reading.specs.Judged.{odd_in, judged}
use Rattle.reading.proofs.Places.{from_step, wholes_end}
use Rattle.reading.proofs.Completed.{descs_from, complete_read}
use Rattle.capture.specs.declared.Capture.{Capture}
use Rattle.capture.specs.Capture.{captured, capture_fault, capture_of}
use Rattle.capture.specs.inner.Behind.{behind}
use Rattle.capture.proofs.Describes.{Describes, described, captured_short, capture_complete, capture_accepts}

-- four bytes a descriptor, and the bodies
pub length_bodies : (ds : List Desc) → length (flat bytes ds) ≡ 4 * length ds + length (flat (λ (d : Desc). d.body) ds)
unfolding flat
length_bodies [] = refl
length_bodies (d ∷ ds) = omega (arith, length-append (bytes d) (flat bytes ds), length-append d.body (flat (λ (d : Desc). d.body) ds), length_bytes d, length_bodies ds)

-- ---- where its descriptors stand

module _ (s : List ℕ) (k : (capture_fault s).number ≡ 0) where
  -- feature 0 stands at byte 8
  pub length_first : 8 < length s
  unfolding flat
  length_first =
      let c = described s k in
      omega (
        arith,
        wholes_end 0 0 s 65534 c.holds.read c.holds.complete,
        ap (λ (ds : List Desc). length (flat bytes ds)) c.holds.found,
        length-append (bytes c.first) (flat bytes c.others),
        length_bytes c.first,
      )

  pub describes : Describes s (desc_at s 8) (behind s)
  describes =
      let c = described s k in
      let e : c.first ∷ c.others ≡ desc_at s 8 ∷ behind s =
      sym c.holds.found ∙ descs_from s (capture_complete s k) ∙ from_step s 8 length_first in
      let x : c.first ≡ desc_at s 8 = cc in
      let y : c.others ≡ behind s = cc in
      rw (x, y) at c.holds

  -- the header, feature 0, the others
  pub sizes : length s ≡ 8 + (4 + length (desc_at s 8).body) + (4 * length (behind s) + length (flat (λ (d : Desc). d.body) (behind s)))
  unfolding flat
  sizes =
      omega (
        arith,
        wholes_end 0 0 s 65534 describes.read describes.complete,
        ap (λ (ds : List Desc). length (flat bytes ds)) describes.found,
        length-append (bytes (desc_at s 8)) (flat bytes (behind s)),
        length_bytes (desc_at s 8),
        length_bodies (behind s),
      )

  features_are : (captured (descs s)).features ≡ behind s
  unfolding captured
  features_are = rw describes.found

-- ---- the answer

module _ (s : List ℕ) where
  pub capture_of_fault : ((capture_fault s).number ≡ 0 → ⊥) → capture_of s ≡ record { refusal = capture_fault s; features = 0 }
  unfolding capture_of
  capture_of_fault h = unless_fault (capture_fault s) _ _ h

  pub capture_of_none : (capture_fault s).number ≡ 0 → capture_of s ≡ record { refusal = accept; features = length (captured (descs s)).features }
  unfolding capture_of
  capture_of_none k = unless_none (capture_fault s) _ _ k

  capture_of_refusal : (capture_of s).refusal ≡ capture_fault s
  capture_of_refusal = go (capture_fault s).number refl
    where
      go : (n : ℕ) → (capture_fault s).number ≡ n → (capture_of s).refusal ≡ capture_fault s
      go zero q = ap (λ (c : Capture). c.refusal) (capture_of_none q) ∙ sym (capture_accepts s q)
      go (suc n) q = ap (λ (c : Capture). c.refusal) (capture_of_fault (λ z. omega arith))

-- what the reading says, as it was judged
pub judged_parts : (s : List ℕ) (j : Judged) → j ≡ judged s → (j.reading ≡ completed s) × (j.odd ≡ odd_in (descs s))
unfolding judged
judged_parts s j e = (ap (λ (x : Judged). x.reading) e, ap (λ (x : Judged). x.odd) e)

-- by the reading r and the refusal x at hand
module _ (s : List ℕ) (r : Reading) (e : r ≡ completed s) (x : Refusal) (p : x ≡ capture_fault s) where
  pub check_refused : (x.number ≡ 0 → ⊥) → record { refusal = x; features = 0 } ≡ capture_of s
  check_refused h = ap (λ (y : Refusal). record { refusal = y; features = 0 }) p ∙ sym (capture_of_fault s (λ z. h (ap (λ (y : Refusal). y.number) p ∙ z)))

  module _ (h : x.number ≡ 0) where
    none : (capture_fault s).number ≡ 0
    none = sym (ap (λ (y : Refusal). y.number) p) ∙ h

    count_is : r.count ≡ suc (length (behind s))
    count_is = ap (λ (y : Reading). y.count) (complete_read s r e (capture_complete s none)) ∙ reading_count 65534 0 0 s ∙ ap length (describes s none).found

    pub check_count : (1 ≤ r.count) × (r.count - 1 < 65536)
    check_count = (omega (arith, count_is), omega (arith, count_is, sizes s none, captured_short s none))

    pub check_accepted : record { refusal = accept; features = r.count - 1 } ≡ capture_of s
    check_accepted =
        let n : r.count - 1 ≡ length (captured (descs s)).features = omega (arith, count_is, ap length (features_are s none)) in
        ap (λ (k : ℕ). record { refusal = accept; features = k }) n ∙ sym (capture_of_none s none)

-- what an answer c says
module _ (s : List ℕ) (c : Capture) (e : c ≡ capture_of s) where
  pub capture_refusal : c.refusal ≡ capture_fault s
  capture_refusal = ap (λ (y : Capture). y.refusal) e ∙ capture_of_refusal s

  pub capture_behind : (capture_fault s).number ≡ 0 → c.features ≡ length (behind s)
  capture_behind k = ap (λ (y : Capture). y.features) (e ∙ capture_of_none s k) ∙ ap length (features_are s k)
