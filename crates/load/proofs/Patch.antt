-- What bytes that were set at places hold. Assumes nothing.
use mathlib.Core.Path.{◌≡◌, refl, ◌∙◌}
use mathlib.Core.Logic.{⊎_elim}
use mathlib.Core.List.{List}
use Prim.Native.Nat.{ℕ, zero, suc, ◌+◌, ◌≤◌, ◌<◌}
use native.Mathlib.Numerals.{add-one}
use native.Mathlib.Omega.{arith}
use lib.ListN.{length, get_or, set, length-set}
use lib.Seq.{get_or-set_same, get_or-set_other, set_out}
use Rattle.base.specs.Lists.{Bytes}
use Rattle.base.proofs.Compare.{le_or_lt}
use Rattle.fields.specs.Field.{field}
use Rattle.load.specs.inner.Patch.{patched}

module _ (place value : ℕ → ℕ) (b : List ℕ) where
  pub length_patched : (k : ℕ) → length (patched place value k b) ≡ length b
  unfolding patched
  length_patched zero = refl
  length_patched (suc k) = length-set (patched place value k b) (place k) (value k) ∙ length_patched k

  -- what is no place stays
  pub patched_other : (k x : ℕ) → ((j : ℕ) → j < k → x ≡ place j → ⊥) → get_or (patched place value k b) x 0 ≡ get_or b x 0
  unfolding patched
  patched_other zero x h = refl
  patched_other (suc k) x h =
      get_or-set_other (patched place value k b) (place k) x (value k) 0 (h k (omega arith)) ∙ patched_other k x (λ j l. h j (omega arith))

  -- at a place stands its value, where no two places are the same
  pub patched_at : (k : ℕ) → ((i j : ℕ) → i < j → j < k → place i ≡ place j → ⊥) → ((j : ℕ) → j < k → place j < length b)
      → (j : ℕ) → j < k → get_or (patched place value k b) (place j) 0 ≡ value j
  unfolding patched
  patched_at zero apart inside j l = absurd (omega arith)
  patched_at (suc k) apart inside j l =
      ⊎_elim
      (λ (h : k ≤ j).
      let e : j ≡ k = omega arith in
      rw e (get_or-set_same (patched place value k b) (place k) (value k) 0 (omega (arith, inside k (omega arith), length_patched k))))
      (λ (h : j < k).
      get_or-set_other (patched place value k b) (place k) (place j) (value k) 0 (apart j k h (omega arith))
      ∙ patched_at k (λ i m p q. apart i m p (omega arith)) (λ i p. inside i (omega arith)) j h)
      (le_or_lt k j)

-- a byte set in a list of bytes
bytes_set : (l : List ℕ) (i v : ℕ) → v < 256 → Bytes l → Bytes (set l i v)
bytes_set l i v h b x =
    ⊎_elim
    (λ (p : i ≤ x).
    ⊎_elim
    (λ (q : x ≤ i).
    let e : x ≡ i = omega arith in
    ⊎_elim
    (λ (r : length l ≤ i). rw (set_out l i v r) (b x))
    (λ (r : i < length l). rw e (omega (arith, get_or-set_same l i v 0 r)))
    (le_or_lt (length l) i))
    (λ (q : i < x). omega (arith, get_or-set_other l i x v 0 (λ e. omega arith), b x))
    (le_or_lt x i))
    (λ (p : x < i). omega (arith, get_or-set_other l i x v 0 (λ e. omega arith), b x))
    (le_or_lt i x)

pub bytes_patched : (place value : ℕ → ℕ) (k : ℕ) (b : List ℕ) → ((j : ℕ) → j < k → value j < 256) → Bytes b → Bytes (patched place value k b)
unfolding patched
bytes_patched place value zero b h x = x
bytes_patched place value (suc k) b h x =
    bytes_set (patched place value k b) (place k) (value k) (h k (omega arith)) (bytes_patched place value k b (λ j l. h j (omega arith)) x)

-- a field whose bytes stayed
pub field_kept : (w : ℕ) (b e : List ℕ) (at : ℕ) → ((k : ℕ) → k < w → get_or e (at + k) 0 ≡ get_or b (at + k) 0) → field w e at ≡ field w b at
unfolding field
field_kept zero b e at h = refl
field_kept (suc w) b e at h = rw (field_kept w b e at (λ k l. h k (omega arith)), h w (omega arith))

-- one place more
pub patched_more : (place value : ℕ → ℕ) (k at v : ℕ) (b e x : List ℕ) → e ≡ patched place value k b → at ≡ place k → v ≡ value k → x ≡ set e at v → x ≡ patched place value (k + 1) b
unfolding patched
patched_more place value k at v b e x p q r s = s ∙ rw (add-one, patched) (rw (p, q, r))
