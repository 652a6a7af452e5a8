-- A loop over the descriptors of a complete response. Assumes nothing.
use borrow.Author.Tests.{ne_eqb}
use mathlib.Core.Path.{◌≡◌, refl, sym, ap, subst, ◌∙◌}
use mathlib.Core.Logic.{⊎_elim}
use mathlib.Core.Bool.{Bool, true, false}
use mathlib.Core.List.{List, [], ◌∷◌}
use Prim.Native.Nat.{ℕ, ◌+◌, ◌≤◌, ◌<◌}
use native.Mathlib.Omega.{arith}
use lib.Dec.{eqb}
use lib.ListN.{length}
use Rattle.base.proofs.Compare.{le_or_lt}
use Rattle.text.specs.Drive.{Desc, Asc}
use Rattle.text.specs.Reading.{number_at, length_at, desc_at}
use Rattle.text.proofs.Walk.{read_fault_header}
use Rattle.text.proofs.Received.{Stand, wholes_stand, wholes_asc}
use Rattle.reading.specs.Places.{descs, next_at}
use Rattle.reading.specs.inner.Between.{from}
use Rattle.reading.proofs.At.{next_is}
use Rattle.reading.proofs.Places.{left_here, left_next, left_end, from_step}
use Rattle.reading.proofs.Completed.{complete_zero, descs_from}
use Rattle.base.specs.Pick.{pick, some}
use Rattle.reading.specs.Completed.{complete_fault}
use Rattle.base.proofs.Pick.{pick_here, pick_past}

pub four_in : (at n : ℕ) → at + 4 ≤ n → at < n
four_in at n h = omega arith

-- of ascending descriptors above f none is f's
some_above : (f lo : ℕ) (ds : List Desc) → f < lo → Asc lo ds → some (λ d. eqb d.number f) ds ≡ false
unfolding pick
some_above f lo [] l a = refl
some_above f lo (d ∷ ds) l a =
    pick_past (λ (e : Desc). eqb e.number f) (λ e. true) false d ds (ne_eqb d.number f (λ e. omega (arith, a.0)))
    ∙ some_above f (1 + d.number) ds (omega (arith, a.0)) a.1

-- the descriptors of a complete response s that stand from a place on
pub record Here (s : List ℕ) (at : ℕ) : Type 0 where
  pub inside : at ≤ length s
  pub lo : ℕ
  pub stand : Stand s at (from s at)
  pub asc : Asc lo (from s at)

module _ (s : List ℕ) where
  pub here_start : (complete_fault s).number ≡ 0 → Here s 8
  here_start e = record {
    inside = (read_fault_header 65534 0 0 s (complete_zero s e).read).eight;
    lo = 0;
    stand = subst (Stand s 8) (descs_from s e) (wholes_stand 65534 0 0 s);
    asc = subst (Asc 0) (descs_from s e) (wholes_asc 65534 0 0 s);
  }

  module _ (at : ℕ) (h : Here s at) where
    module _ (l : at < length s) where
      one : Stand s at (desc_at s at ∷ from s (next_at s at))
      one = subst (Stand s at) (from_step s at l) h.stand

      -- those behind it are above it
      pub here_above : Asc (1 + number_at s at) (from s (next_at s at))
      unfolding desc_at
      here_above = (subst (Asc h.lo) (from_step s at l) h.asc).1

      pub here_next : (next : ℕ) → next ≡ next_at s at → Here s next
      here_next next q =
          let n : next ≡ at + 4 + length_at s at = next_is s at next l q in
          record {
            inside = rw n one.1;
            lo = 1 + number_at s at;
            stand = subst (λ (k : ℕ). Stand s k (from s next)) (sym n) (rw q one.2);
            asc = rw q here_above;
          }

      -- it is whole
      pub here_whole : at + 4 + length_at s at ≤ length s
      here_whole = one.1

    -- a descriptor has its four header bytes, so where there are none it is the end
    pub here_end : length s < at + 4 → length s ≤ at
    here_end k = ⊎_elim (λ l. l) (λ l. absurd (omega (arith, (one l).1))) (le_or_lt (length s) at)

  -- the first descriptor that is not below f tells whether f is reported
  pub here_told : (f at number : ℕ) (w : Bool) → w ≡ some (λ d. eqb d.number f) (from s at) → Here s at → at < length s → number ≡ number_at s at → f ≤ number
      → eqb number f ≡ w
  unfolding desc_at
  here_told f at number w e h l n k =
      sym (e ∙ ap (some is) (from_step s at l) ∙ go (eqb number f) refl)
    where
      is : Desc → Bool
      is d = eqb d.number f

      go : (t : Bool) → eqb number f ≡ t → some is (desc_at s at ∷ from s (next_at s at)) ≡ eqb number f
      go true t = pick_here is (λ d. true) false (desc_at s at) _ (rw (← n) t) ∙ sym t
      go false t =
          pick_past is (λ d. true) false (desc_at s at) _ (rw (← n) t)
          ∙ some_above f (1 + number_at s at) _ (omega arith) (here_above at h l) ∙ sym t

  -- a loop over them, at a place, where w is what it looks for: found, a further turn, the end
  module _ {B : Type 0} (test : Desc → Bool) (found : Desc → B) (none : B) where
    pub walk_start : (complete_fault s).number ≡ 0 → pick test found none (descs s) ≡ pick test found none (from s 8)
    walk_start e = ap (pick test found none) (descs_from s e)

    module _ (w : B) (at : ℕ) (e : w ≡ pick test found none (from s at)) where
      pub walk_found : (v : B) → at < length s → test (desc_at s at) ≡ true → v ≡ found (desc_at s at) → v ≡ w
      walk_found v h t g = left_here (pick test found none) w s at (length s) e v h (λ ds. pick_here test found none (desc_at s at) ds t ∙ sym g)

      pub walk_next : (next : ℕ) → at < length s → next ≡ next_at s at → test (desc_at s at) ≡ false → w ≡ pick test found none (from s next)
      walk_next next h n t =
          left_next (pick test found none) w s at (length s) e (pick test found none) next h (next_is s at next h n) (λ ds. pick_past test found none (desc_at s at) ds t)

      pub walk_end : length s ≤ at → none ≡ w
      unfolding pick
      walk_end h = left_end (pick test found none) w s at (length s) e h
