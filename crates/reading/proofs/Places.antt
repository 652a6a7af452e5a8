-- The descriptors from a place to an end, the one law of a loop over them, and that those of a complete response end where it ends. Assumes nothing.
use borrow.Author.Tests.{lt-ltb, le-ltb, ltb-true, ltb-false}
use mathlib.Core.Path.{◌≡◌, refl, sym, ap, subst, ◌∙◌}
use mathlib.Core.Logic.{⊎_elim}
use mathlib.Core.Bool.{Bool, true, false}
use mathlib.Core.List.{List, [], ◌∷◌}
use Prim.Native.Nat.{ℕ, zero, suc, ◌+◌, ◌-◌, ◌%◌, ◌≤◌, ◌<◌}
use native.Mathlib.Nat.{le_refl, div-add-mod}
use native.Mathlib.Omega.{arith}
use lib.Dec.{ltb}
use lib.ListN.{length, length-append}
use Rattle.base.specs.Lists.{flat}
use Rattle.text.specs.Drive.{Desc}
use Rattle.text.specs.Response.{bytes}
use Rattle.text.specs.Reading.{Walked, stated_length, stated_end, number_at, flags_at, length_at, desc_at, head_fault, walk, walked, read_fault, reading, wholes}
use Rattle.base.proofs.Compare.{le_or_lt}
use Rattle.text.proofs.Walk.{walk_few, walk_bad, walk_step, HeadFine, head_rule_zero, read_fault_header, read_fault_walk, wholes_accepted}
use Rattle.text.proofs.Received.{Stand, length_desc_at, wholes_stand, reading_end}
use Rattle.reading.specs.Places.{descs, next_at}
use Rattle.reading.specs.inner.Between.{run, between, from}
use Rattle.reading.proofs.At.{next_is}

module _ (s : List ℕ) (end : ℕ) where
  run_end : (k at : ℕ) → end ≤ at → run k s at end ≡ []
  unfolding run
  run_end zero at h = refl
  run_end (suc k) at h = rw (le-ltb at end h, run)

  run_more : (k at : ℕ) → at < end → run (suc k) s at end ≡ desc_at s at ∷ run k s (at + 4 + length_at s at) end
  unfolding run
  run_more k at h = rw (lt-ltb at end h, run)

  -- more steps than are left change nothing
  enough : (k m at : ℕ) → end - at ≤ k → end - at ≤ m → run k s at end ≡ run m s at end
  unfolding run
  enough zero m at h j = sym (run_end m at (omega arith))
  enough (suc k) zero at h j = run_end (suc k) at (omega arith)
  enough (suc k) (suc m) at h j = go (ltb at end) refl (enough k m (at + 4 + length_at s at) (omega arith) (omega arith))
    where
      go : (t : Bool) → ltb at end ≡ t → run k s (at + 4 + length_at s at) end ≡ run m s (at + 4 + length_at s at) end → run (suc k) s at end ≡ run (suc m) s at end
      go true e i = run_more k at (ltb-true _ _ e) ∙ ap (λ (ds : List Desc). desc_at s at ∷ ds) i ∙ sym (run_more m at (ltb-true _ _ e))
      go false e i = run_end (suc k) at (ltb-false _ _ e) ∙ sym (run_end (suc m) at (ltb-false _ _ e))

  -- one descriptor, and those behind it; none
  pub between_step : (at : ℕ) → at < end → between s at end ≡ desc_at s at ∷ between s (at + 4 + length_at s at) end
  between_step at h =
      let e : end - at ≡ suc (end - at - 1) = omega arith in
      ap (λ (k : ℕ). run k s at end) e ∙ run_more (end - at - 1) at h
      ∙ ap (λ (ds : List Desc). desc_at s at ∷ ds)
      (enough (end - at - 1) (end - (at + 4 + length_at s at)) (at + 4 + length_at s at) (omega arith) (omega arith))

  pub between_end : (at : ℕ) → end ≤ at → between s at end ≡ []
  between_end at h = run_end (end - at) at h

  -- what stands up to the end is these
  stand_between : (at : ℕ) (ds : List Desc) → Stand s at ds → end - at ≡ length (flat bytes ds) → ds ≡ between s at end
  unfolding flat
  stand_between at [] t n = sym (between_end at (omega arith))
  stand_between at (d ∷ ds) t n =
      let l : end - at ≡ 4 + length_at s at + length (flat bytes ds) =
      omega (arith, length-append (bytes d) (flat bytes ds), ap (λ (x : Desc). length (bytes x)) t.0, length_desc_at s at t.1) in
      ap (λ (x : Desc). x ∷ ds) t.0
      ∙ ap (λ (r : List Desc). desc_at s at ∷ r) (stand_between (at + 4 + length_at s at) ds t.2 (omega arith))
      ∙ sym (between_step at (omega arith))

-- ---- a loop over them, which carries a property P of those that are left

module _ (s : List ℕ) (at end : ℕ) (P : List Desc → Type 0) (p : P (between s at end)) where
  -- a turn: there is one, and the others are left
  pub left_more : (next : ℕ) → at < end → next ≡ at + 4 + length_at s at → P (desc_at s at ∷ between s next end)
  left_more next h n = rw n (subst P (between_step s end at h) p)

  -- the end: none is left
  pub left_none : end ≤ at → P []
  left_none h = subst P (between_end s end at h) p

-- and fewer bytes are left at each turn
pub left_less : (s : List ℕ) (at end next : ℕ) → at < end → end ≤ length s → next ≡ next_at s at → end - next < end - at
left_less s at end next h l n = omega (arith, next_is s at next (omega arith) n)

-- where the property is that F of those left is the answer w: w is found here, a further turn that leaves G to be asked, the end
module _ {B : Type 0} (F : List Desc → B) (w : B) (s : List ℕ) (at end : ℕ) (e : w ≡ F (between s at end)) where
  pub left_here : (v : B) → at < end → ((ds : List Desc) → F (desc_at s at ∷ ds) ≡ v) → v ≡ w
  left_here v h f = sym (left_more s at end (λ (ds : List Desc). w ≡ F ds) e (at + 4 + length_at s at) h refl ∙ f _)

  pub left_next : (G : List Desc → B) (next : ℕ) → at < end → next ≡ at + 4 + length_at s at → ((ds : List Desc) → F (desc_at s at ∷ ds) ≡ G ds) → w ≡ G (between s next end)
  left_next G next h n f = left_more s at end (λ (ds : List Desc). w ≡ F ds) e next h n ∙ f _

  pub left_end : end ≤ at → F [] ≡ w
  left_end h = sym (left_none s at end (λ (ds : List Desc). w ≡ F ds) e h)

-- up to the end of s
module _ (s : List ℕ) (at : ℕ) where
  pub from_step : at < length s → from s at ≡ desc_at s at ∷ from s (next_at s at)
  from_step h = left_more s at (length s) (λ (ds : List Desc). from s at ≡ ds) refl (next_at s at) h (next_is s at (next_at s at) h refl)

  pub from_end : length s ≤ at → from s at ≡ []
  from_end h = between_end s (length s) at h

  pub from_less : (next : ℕ) → at < length s → next ≡ next_at s at → length s - next < length s - at
  from_less next h n = left_less s at (length s) next h (le_refl (length s)) n

-- the whole descriptors of a response are those from byte 8 to the end of its reading
pub wholes_between : (s : List ℕ) → descs s ≡ between s 8 (reading 65534 0 0 s).end
wholes_between s = stand_between s (reading 65534 0 0 s).end 8 (descs s) (wholes_stand 65534 0 0 s) (reading_end 65534 0 0 s)

-- ---- a complete response

-- where no header is refused and the length is the stated one, the descriptors end where the response ends: lengths are multiples of 4
module _ (rt sfn : ℕ) (s : List ℕ) where
  abbrev Ends : ℕ → Type 0
  Ends k =
      (lo at : ℕ) → length s ≤ at + k → at ≤ length s → (length s - at) % 4 ≡ 0 → (walk k rt sfn (length s) s lo at).fault.number ≡ 0
      → at + length (flat bytes (walk k rt sfn (length s) s lo at).found) ≡ length s

  head_facts : (lo at : ℕ) → (head_fault rt sfn (length s) s lo at).number ≡ 0 → HeadFine rt sfn (length s) lo at (number_at s at) (flags_at s at) (length_at s at)
  unfolding head_fault
  head_facts lo at e = head_rule_zero rt sfn (length s) lo at (number_at s at) (flags_at s at) (length_at s at) e

  ends_step : (k : ℕ) → Ends k → Ends (suc k)
  unfolding flat
  ends_step k more lo at h l d e = ⊎_elim (whole (head_fault rt sfn (length s) s lo at).number refl) few (le_or_lt (at + 4) (length s))
    where
      few : length s < at + 4 → at + length (flat bytes (walk (suc k) rt sfn (length s) s lo at).found) ≡ length s
      few g = rw (walk_few k rt sfn (length s) s lo at g) (omega (arith, div-add-mod (length s - at) 4))

      whole : (n : ℕ) → (head_fault rt sfn (length s) s lo at).number ≡ n → at + 4 ≤ length s → at + length (flat bytes (walk (suc k) rt sfn (length s) s lo at).found) ≡ length s
      whole (suc n) f g =
          let b = walk_bad k rt sfn (length s) s lo at g (λ z. absurd (omega arith)) in
          let z : (head_fault rt sfn (length s) s lo at).number ≡ 0 = sym (ap (λ (w : Walked). w.fault.number) b) ∙ e in
          absurd (omega arith)
      whole zero f g =
          let good = head_facts lo at f in
          let b = walk_step k rt sfn (length s) s lo at g f good.within in
          let i = more (number_at s at + 1) (at + 4 + length_at s at) (omega arith) good.within
          (omega (arith, good.four, good.within, div-add-mod (length s - at) 4, div-add-mod (length_at s at) 4))
          (sym (ap (λ (w : Walked). w.fault.number) b) ∙ e) in
          rw b
          (omega (
            arith,
            i,
            length-append (bytes (desc_at s at)) (flat bytes (walk k rt sfn (length s) s (number_at s at + 1) (at + 4 + length_at s at)).found),
            length_desc_at s at good.within,
          ))

  walk_ends : (k : ℕ) → Ends k
  unfolding walk flat
  walk_ends zero = λ lo at h l d e. omega arith
  walk_ends (suc k) = ends_step k (walk_ends k)

  pub wholes_end : (limit : ℕ) → (read_fault limit rt sfn s).number ≡ 0 → length s ≡ stated_end s → 8 + length (flat bytes (wholes limit rt sfn s)) ≡ length s
  unfolding walked
  wholes_end limit e c =
      let h = read_fault_header limit rt sfn s e in
      rw (wholes_accepted limit rt sfn s e, ← c)
      (walk_ends (length s) sfn 8 (omega arith) h.eight (omega (arith, h.eight, h.four, div-add-mod (stated_length s) 4))
      (rw (← c) at (read_fault_walk limit rt sfn s e)))

-- the descriptors of a complete response
pub wholes_from : (s : List ℕ) → (read_fault 65534 0 0 s).number ≡ 0 → length s ≡ stated_end s → descs s ≡ from s 8
wholes_from s k c = stand_between s (length s) 8 (descs s) (wholes_stand 65534 0 0 s) (omega (arith, wholes_end 0 0 s 65534 k c))
