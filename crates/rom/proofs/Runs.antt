-- Runs of descriptors that are current: what stands between two places, and what is left behind it. Assumes nothing.
use mathlib.Core.Path.{◌≡◌, refl, sym, ap, ◌∙◌}
use mathlib.Core.Logic.{⊎_elim}
use mathlib.Core.Bool.{Bool, true, false, not}
use mathlib.Core.List.{List, [], ◌++◌, append_assoc, append-nil}
use Prim.Native.Nat.{ℕ, zero, suc, ◌+◌, ◌-◌, ◌≤◌, ◌<◌}
use native.Mathlib.Omega.{arith}
use lib.ListN.{length, take, drop, length-append, length-drop}
use lib.Seq.{take_all, length-take-le}
use Rattle.base.proofs.Compare.{le_or_lt}
use Rattle.base.proofs.Lists.{take_more}
use Rattle.text.specs.Reading.{length_at}
use Rattle.lent.specs.Wrote.{Wrote}
use Rattle.lent.proofs.Laws.{nothing, nowhere, then}
use Rattle.reading.specs.Places.{next_at}
use Rattle.reading.specs.inner.Between.{from}
use Rattle.reading.proofs.Places.{from_step, from_end}
use Rattle.reading.proofs.At.{next_is}
use Rattle.rom.specs.inner.Standing.{first_at, agrees, current_at, standing, currents_in, currents}
use Rattle.rom.proofs.Seek.{seek_here, seek_past, seek_none}

-- ---- where a search ends

module _ (test : ℕ → Bool) (i : List ℕ) where
  -- not before its start, and where it ends before the end of the image the test is passed
  pub record Ends (at w : ℕ) : Type 0 where
    pub behind : at ≤ length i → at ≤ w
    pub within : w ≤ length i
    pub passes : w < length i → test w ≡ true

  ends : (k at : ℕ) → length i ≤ at + k → Ends at (first_at test i at)
  ends zero at h = rw (seek_none test i at (omega arith)) (record { behind = λ l. l; within = omega arith; passes = λ l. absurd (omega arith) })
  ends (suc k) at h = ⊎_elim
      (λ (l : length i ≤ at). rw (seek_none test i at l) (record { behind = λ z. z; within = omega arith; passes = λ z. absurd (omega arith) }))
      (λ (l : at < length i). go l (test at) refl (ends k (next_at i at) (omega (arith, next_is i at (next_at i at) l refl))))
      (le_or_lt (length i) at)
    where
      go : at < length i → (b : Bool) → test at ≡ b → Ends (next_at i at) (first_at test i (next_at i at)) → Ends at (first_at test i at)
      go l true e r = rw (seek_here test i at l e) (record { behind = λ z. omega arith; within = omega arith; passes = λ z. e })
      go l false e r =
          rw (seek_past test i at l e) (record {
            behind = λ z. ⊎_elim
                (λ (x : next_at i at ≤ length i). omega (arith, r.behind x, next_is i at (next_at i at) l refl))
                (λ (x : length i < next_at i at). omega (arith, ap (λ (n : ℕ). n) (seek_none test i (next_at i at) (omega arith))))
                (le_or_lt (next_at i at) (length i));
            within = r.within;
            passes = r.passes;
          })

  pub seek_ends : (at : ℕ) → Ends at (first_at test i at)
  seek_ends at = ends (length i) at (omega arith)

-- ---- the current ones

module _ (i : List ℕ) where
  abbrev on : ℕ → Bool
  on = current_at true i

  abbrev off : ℕ → Bool
  off = current_at false i

  off_not : (at : ℕ) (b : Bool) → on at ≡ b → off at ≡ not b
  unfolding agrees
  off_not at b e = ap not e

  module _ (at : ℕ) where
    pub currents_on : at < length i → on at ≡ true → currents i at ≡ standing i at ++ currents i (next_at i at)
    unfolding currents_in
    currents_on h t = rw (from_step i at h, currents_in, t)

    pub currents_off : at < length i → on at ≡ false → currents i at ≡ currents i (next_at i at)
    unfolding currents_in
    currents_off h t = rw (from_step i at h, currents_in, t)

    pub currents_none : length i ≤ at → currents i at ≡ []
    unfolding currents_in
    currents_none h = rw (from_end i at h, currents_in)

  -- those passed over are none of them
  gap : (k at : ℕ) → length i ≤ at + k → currents i at ≡ currents i (first_at on i at)
  gap zero at h = currents_none at (omega arith) ∙ sym (rw (seek_none on i at (omega arith)) (currents_none (length i) (omega arith)))
  gap (suc k) at h = ⊎_elim
      (λ (l : length i ≤ at). currents_none at l ∙ sym (rw (seek_none on i at l) (currents_none (length i) (omega arith))))
      (λ (l : at < length i). go l (on at) refl (gap k (next_at i at) (omega (arith, next_is i at (next_at i at) l refl))))
      (le_or_lt (length i) at)
    where
      go : at < length i → (b : Bool) → on at ≡ b → currents i (next_at i at) ≡ currents i (first_at on i (next_at i at)) → currents i at ≡ currents i (first_at on i at)
      go l true e r = ap (currents i) (sym (seek_here on i at l e))
      go l false e r = currents_off at l e ∙ r ∙ ap (currents i) (sym (seek_past on i at l e))

  -- those of a run stand one behind the other
  abbrev Run : ℕ → ℕ → Type 0
  Run at e = currents i at ≡ take (e - at) (drop at i) ++ currents i e

  run_here : (at : ℕ) → Run at at
  run_here at = let z : at - at ≡ 0 = omega arith in rw z refl

  run_none : (at : ℕ) → length i ≤ at → Run at (length i)
  run_none at h = let z : length i - at ≡ 0 = omega arith in currents_none at h ∙ rw z (sym (currents_none (length i) (omega arith)))

  run : (k at : ℕ) → length i ≤ at + k → Run at (first_at off i at)
  run zero at h = rw (seek_none off i at (omega arith)) (run_none at (omega arith))
  run (suc k) at h = ⊎_elim
      (λ (l : length i ≤ at). rw (seek_none off i at l) (run_none at l))
      (λ (l : at < length i). go l (on at) refl (run k (next_at i at) (omega (arith, next_is i at (next_at i at) l refl))))
      (le_or_lt (length i) at)
    where
      -- the descriptor at the place, and those of the run behind it
      joined : at < length i → (e : ℕ) → e ≤ length i → (next_at i at ≤ length i → next_at i at ≤ e) → (length i < next_at i at → e ≡ length i)
          → standing i at ++ take (e - next_at i at) (drop (next_at i at) i) ≡ take (e - at) (drop at i)
      joined l e y a b =
          let n : next_at i at ≡ at + (4 + length_at i at) = omega (arith, next_is i at (next_at i at) l refl) in
          ⊎_elim
          (λ (x : next_at i at ≤ length i).
          let z : e - at ≡ 4 + length_at i at + (e - (at + (4 + length_at i at))) = omega (arith, a x) in
          rw (n, z) (take_more i at (4 + length_at i at) (e - (at + (4 + length_at i at)))))
          (λ (x : length i < next_at i at).
          let z : e - (at + (4 + length_at i at)) ≡ 0 = omega (arith, b x) in
          rw (n, z, append-nil) (take_all (4 + length_at i at) (drop at i) (omega (arith, length-drop at i)) ∙ sym (take_all (e - at) (drop at i) (omega (arith, length-drop at i, b x)))))
          (le_or_lt (next_at i at) (length i))

      go : at < length i → (b : Bool) → on at ≡ b → Run (next_at i at) (first_at off i (next_at i at)) → Run at (first_at off i at)
      go l true e r =
          let w : ℕ = first_at off i (next_at i at) in
          let x = seek_ends off i (next_at i at) in
          rw (seek_past off i at l (off_not at true e))
          (currents_on at l e ∙ ap (λ (ys : List ℕ). standing i at ++ ys) r
          ∙ sym (append_assoc (standing i at) (take (w - next_at i at) (drop (next_at i at) i)) (currents i w))
          ∙ ap (λ (ys : List ℕ). ys ++ currents i w) (joined l w x.within x.behind (λ z. seek_none off i (next_at i at) (omega arith))))
      go l false e r = rw (seek_here off i at l (off_not at false e)) (run_here at)

  -- a turn: from a place with a current one to the end of its run, and on to the next current one
  pub record Turn (at end next : ℕ) : Type 0 where
    pub further : at < end
    pub within : end ≤ length i
    pub onward : end ≤ next
    pub is : currents i at ≡ take (end - at) (drop at i) ++ currents i next
    pub stands : next < length i → on next ≡ true

  pub run_further : (at end : ℕ) → at < length i → on at ≡ true → end ≡ first_at off i at → at < end
  run_further at end l t p =
      let e : end ≡ first_at off i (next_at i at) = p ∙ seek_past off i at l (off_not at true t) in
      ⊎_elim
      (λ (z : next_at i at ≤ length i). omega (arith, e, (seek_ends off i (next_at i at)).behind z, next_is i at (next_at i at) l refl))
      (λ (z : length i < next_at i at). omega (arith, e, seek_none off i (next_at i at) (omega arith)))
      (le_or_lt (next_at i at) (length i))

  pub turn : (at end next : ℕ) → at < length i → on at ≡ true → end ≡ first_at off i at → next ≡ first_at on i end → Turn at end next
  turn at end next l t p q =
      let y = seek_ends on i end in
      let w : end ≤ length i = omega (arith, p, (seek_ends off i at).within) in
      record {
        further = run_further at end l t p;
        within = w;
        onward = omega (arith, q, y.behind w);
        is = rw (q, p) (run (length i) at (omega arith) ∙ ap (λ (ys : List ℕ). take (first_at off i at - at) (drop at i) ++ ys) (gap (length i) (first_at off i at) (omega arith)));
        stands = λ z. rw q (y.passes (omega (arith, q)));
      }

  -- ---- the loop that counts: size bytes stand before the place

  pub record Counted (from size place : ℕ) : Type 0 where
    pub is : size + length (currents i place) ≡ length (currents i from)
    pub least : size ≤ place
    pub within : place ≤ length i
    pub stands : place < length i → on place ≡ true

  pub counted_start : (from place : ℕ) → place ≡ first_at on i from → Counted from 0 place
  counted_start from place e = record {
    is = omega (arith, ap length (gap (length i) from (omega arith)), ap (λ (p : ℕ). length (currents i p)) e);
    least = omega arith;
    within = omega (arith, e, (seek_ends on i from).within);
    stands = λ l. rw e ((seek_ends on i from).passes (omega (arith, e)));
  }

  pub counted_more : {from size at : ℕ} (end next : ℕ) → Counted from size at → at < length i → end ≡ first_at off i at → next ≡ first_at on i end → Counted from (size + (end - at)) next
  counted_more {size = size} {at = at} end next c l p q =
      let t = turn at end next l (c.stands l) p q in
      let n : length (currents i at) ≡ (end - at) + length (currents i next) =
      omega (
        arith,
        ap length t.is,
        length-append (take (end - at) (drop at i)) (currents i next),
        length-take-le (end - at) (drop at i) (omega (arith, length-drop at i, t.within, t.further)),
      ) in
      record {
        is = omega (arith, n, c.is);
        least = omega (arith, c.least, t.onward, t.further);
        within = omega (arith, q, (seek_ends on i end).within);
        stands = t.stands;
      }

  pub counted_end : {from size at : ℕ} → Counted from size at → length i ≤ at → (size ≡ length (currents i from)) × (size ≤ length i)
  counted_end {at = at} c l = (omega (arith, c.is, ap length (currents_none at l)), omega (arith, c.least, c.within))

-- ---- the loop that copies: what stands before the place was written

pub record Copied (d : List ℕ) (at : ℕ) (i : List ℕ) (from : ℕ) (e : List ℕ) (next place : ℕ) : Type 0 where
  pub xs : List ℕ
  pub wrote : Wrote d at xs next e
  pub is : currents i from ≡ xs ++ currents i place
  pub stands : place < length i → current_at true i place ≡ true

pub copied_start : (d : List ℕ) (at : ℕ) (i : List ℕ) (from place : ℕ) → place ≡ first_at (current_at true i) i from → Copied d at i from d at place
copied_start d at i from place e = record {
  xs = [];
  wrote = nothing d at;
  is = rw e (gap i (length i) from (omega arith));
  stands = λ l. rw e ((seek_ends (current_at true i) i from).passes (omega (arith, e)));
}

pub copied_more : {d e : List ℕ} {at : ℕ} {i : List ℕ} {from next place : ℕ} (end onward : ℕ) (part : List ℕ) (r : ℕ) (f : List ℕ) → Copied d at i from e next place → place < length i
    → end ≡ first_at (current_at false i) i place → onward ≡ first_at (current_at true i) i end → part ≡ take (end - place) (drop place i) → Wrote e next part r f → Copied d at i from f r onward
copied_more {i = i} {place = place} end onward part r f c l p q x w =
    let t = turn i place end onward l (c.stands l) p q in
    record {
      xs = c.xs ++ part;
      wrote = then c.wrote w;
      is = c.is ∙ ap (λ (ys : List ℕ). c.xs ++ ys) (t.is ∙ ap (λ (ys : List ℕ). ys ++ currents i onward) (sym x)) ∙ sym (append_assoc c.xs part (currents i onward));
      stands = t.stands;
    }

pub copied_full : {d e : List ℕ} {at : ℕ} {i : List ℕ} {from next place : ℕ} → Copied d at i from e next place → length e ≤ next → Wrote d at (currents i from) next e
copied_full {e = e} {i = i} {next = next} {place = place} c h = rw c.is (then c.wrote (nowhere e next (currents i place) h))

pub copied_end : {d e : List ℕ} {at : ℕ} {i : List ℕ} {from next place : ℕ} → Copied d at i from e next place → length i ≤ place → Wrote d at (currents i from) next e
copied_end {i = i} {place = place} c h = rw (c.is, currents_none i place h, append-nil) c.wrote
