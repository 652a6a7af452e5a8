-- What the walk over an accepted sheet's entries beside an ascending list finds: all of the list exactly if the sheet lacks none, and then each entry that is
-- listed. Assumes nothing.
use mathlib.Core.Path.{◌≡◌, refl, sym, ap, ◌∙◌}
use mathlib.Core.Logic.{⊎_elim}
use mathlib.Core.Bool.{Bool, true, false, true≢false}
use mathlib.Core.List.{List}
use Prim.Native.Nat.{ℕ, zero, suc, ◌+◌, ◌≤◌, ◌<◌}
use native.Mathlib.Numerals.{add-one}
use native.Mathlib.Omega.{arith}
use native.Mathlib.Nat.{add-zero}
use borrow.Author.Tests.{eqb-true, eq-eqb, ne_eqb}
use lib.Dec.{eqb}
use lib.ListN.{length, get_or, get_or-eq_default}
use Rattle.base.specs.Lists.{each}
use Rattle.base.proofs.Compare.{le_or_lt}
use Rattle.text.specs.Drive.{bit}
use Rattle.layout.specs.Layout.{Sheet, feature_count, number, flags}
use Rattle.sheet.specs.Facts.{Facts}
use Rattle.sheet.proofs.Accepted.{ascending}
use Rattle.load.specs.Load.{is_in, ascends, lacks, flags_with}
use Rattle.load.specs.inner.Beside.{Above, meets, met, flags_met}
use Rattle.load.proofs.With.{bit_low}
use Rattle.load.proofs.Numbers.{ascends_at, in_at, in_nowhere, lacks_none, lacks_one, none_lacking, each_has, each_lacks}

-- ---- the next one of the list

-- an entry's number is not 0, so that it is met only inside the list
meets_is : (fs : List ℕ) (j n : ℕ) → 0 < n → meets fs j n ≡ true → (j < length fs) × (get_or fs j 0 ≡ n)
meets_is fs j n h e =
    let q : n ≡ get_or fs j 0 = eqb-true n (get_or fs j 0) e in
    (⊎_elim (λ (l : length fs ≤ j). absurd (omega (arith, q, get_or-eq_default fs 0 l))) (λ (l : j < length fs). l) (le_or_lt (length fs) j), sym q)

is_meets : (fs : List ℕ) (j n : ℕ) → get_or fs j 0 ≡ n → meets fs j n ≡ true
is_meets fs j n e = eq-eqb n (get_or fs j 0) (sym e)

-- ---- the walk

-- entry `at`, one of the first i, has the number n
record Among (s : Sheet) (i n : ℕ) : Type 0 where
  at : ℕ
  before : at < i
  there : number s at ≡ n

module _ {s : Sheet} (f : Facts s) (fs : List ℕ) (asc : ascends fs ≡ true) where
  -- what is met stands among the entries passed, and what comes next does not
  record Walked (i j : ℕ) : Type 0 where
    few : j ≤ length fs
    found : (x : ℕ) → x < j → Among s i (get_or fs x 0)
    fresh : j < length fs → (k : ℕ) → k < i → number s k ≡ get_or fs j 0 → ⊥

  further : (i n : ℕ) → Among s i n → Among s (suc i) n
  further i n a = record { at = a.at; before = omega (arith, a.before); there = a.there }

  one_more : (i j : ℕ) → i < feature_count s → Walked i j → (t : Bool) → meets fs j (number s i) ≡ t → Walked (suc i) (j + bit t)
  one_more i j l w true e =
      let h = meets_is fs j (number s i) (omega (arith, f.above i l)) e in
      record {
        few = omega (arith, h.0);
        found = λ x m.
            ⊎_elim
            (λ (q : j ≤ x). let z : x ≡ j = omega arith in record { at = i; before = omega arith; there = sym (ap (λ (k : ℕ). get_or fs k 0) z ∙ h.1) })
            (λ (q : x < j). further i (get_or fs x 0) (w.found x q))
            (le_or_lt j x);
        fresh = λ m k q z.
            let up : get_or fs j 0 < get_or fs (j + 1) 0 = ascends_at fs asc j (j + 1) (omega arith) m in
            ⊎_elim
            (λ (p : i ≤ k). let y : k ≡ i = omega arith in omega (arith, up, z, h.1, ap (number s) y))
            (λ (p : k < i). omega (arith, up, z, h.1, ascending f k i p l))
            (le_or_lt i k);
      }
  one_more i j l w false e =
      record {
        few = omega (arith, w.few);
        found = λ x m. further i (get_or fs x 0) (w.found x (omega arith));
        fresh = λ m k q z.
            let z' : j + 0 ≡ j = omega arith in
            let v : number s k ≡ get_or fs j 0 = z ∙ ap (λ (y : ℕ). get_or fs y 0) z' in
            ⊎_elim
            (λ (p : i ≤ k). let y : k ≡ i = omega arith in true≢false (sym (is_meets fs j (number s i) (sym v ∙ ap (number s) y)) ∙ e))
            (λ (p : k < i). w.fresh (omega arith) k p v)
            (le_or_lt i k);
      }

  walked : (i : ℕ) → i ≤ feature_count s → Walked i (met s fs i)
  unfolding met
  walked zero l = record { few = omega arith; found = λ x h. absurd (omega arith); fresh = λ h k m. absurd (omega arith) }
  walked (suc i) l = one_more i (met s fs i) (omega arith) (walked i (omega arith)) (meets fs (met s fs i) (number s i)) refl

  -- the numbers of the sheet
  abbrev all : List ℕ
  all = each (number s) 0 (feature_count s)

  pub met_all : met s fs (feature_count s) ≡ length fs → lacks all fs ≡ false
  met_all e = lacks_none all fs (λ j l. let a = (walked (feature_count s) (omega arith)).found j (omega arith) in each_has (number s) (feature_count s) (get_or fs j 0) a.at a.before a.there)

  pub met_few : (met s fs (feature_count s) ≡ length fs → ⊥) → lacks all fs ≡ true
  met_few h =
      let w = walked (feature_count s) (omega arith) in
      let l : met s fs (feature_count s) < length fs = ⊎_elim (λ (q : length fs ≤ met s fs (feature_count s)). absurd (h (omega (arith, w.few)))) (λ q. q) (le_or_lt (length fs) (met s fs (feature_count s))) in
      lacks_one all fs (met s fs (feature_count s)) l (each_lacks (number s) (feature_count s) (get_or fs (met s fs (feature_count s)) 0) (w.fresh l))

-- ---- the loop

-- never more than the entries passed
pub met_le : (s : Sheet) (fs : List ℕ) (i : ℕ) → met s fs i ≤ i
unfolding met
met_le s fs zero = omega arith
met_le s fs (suc i) = omega (arith, met_le s fs i, bit_low (meets fs (met s fs i) (number s i)))

-- one entry more
pub met_more : (s : Sheet) (fs : List ℕ) (i j n next m : ℕ) (t : Bool) → j ≡ met s fs i → next ≡ get_or fs j 0 → n ≡ number s i → t ≡ eqb n next → m ≡ j + bit t → m ≡ met s fs (i + 1)
unfolding met
met_more s fs i j n next m t p e q r z = z ∙ rw (add-one, met) (rw (r, e, p, q))

pub flags_met_law : (s : Sheet) (fs : List ℕ) (i j n next g : ℕ) (t : Bool) → j ≡ met s fs i → next ≡ get_or fs j 0 → n ≡ number s i → t ≡ eqb n next → g ≡ flags_with t (flags s i) → g ≡ flags_met s fs i
unfolding flags_met
flags_met_law s fs i j n next g t p e q r z = z ∙ rw (r, e, p, q)

-- where all are met, no further entry is
pub met_all_over : (s : Sheet) (fs : List ℕ) (i k : ℕ) → Above s (i + k) → length fs ≤ met s fs i → met s fs (i + k) ≡ met s fs i
unfolding met
met_all_over s fs i zero a h = ap (met s fs) (add-zero i)
met_all_over s fs i (suc k) a h =
    let up : i + suc k ≡ suc (i + k) = omega arith in
    let e : met s fs (i + k) ≡ met s fs i = met_all_over s fs i k (λ j l. a j (omega arith)) h in
    let z : meets fs (met s fs (i + k)) (number s (i + k)) ≡ false =
    ne_eqb (number s (i + k)) (get_or fs (met s fs (i + k)) 0) (λ q. omega (arith, q, a (i + k) (omega arith), get_or-eq_default fs 0 {n = met s fs (i + k)} (omega (arith, e)))) in
    ap (met s fs) up ∙ rw (z, met) (omega (arith, e))

-- ---- where the sheet lacks none, an entry is met exactly if it is listed

module _ {s : Sheet} (f : Facts s) (fs : List ℕ) (asc : ascends fs ≡ true) (none : lacks (each (number s) 0 (feature_count s)) fs ≡ false) where
  -- each number of the list is that of an entry
  where_is : (j : ℕ) → j < length fs → ((k : ℕ) → k < feature_count s → number s k ≡ get_or fs j 0 → ⊥) → ⊥
  where_is j l h = true≢false (sym (none_lacking (each (number s) 0 (feature_count s)) fs none j l) ∙ each_lacks (number s) (feature_count s) (get_or fs j 0) h)

  pub met_is : (i : ℕ) → i < feature_count s → meets fs (met s fs i) (number s i) ≡ is_in fs (number s i)
  met_is i l = go (meets fs (met s fs i) (number s i)) refl
    where
      w : Walked f fs asc i (met s fs i)
      w = walked f fs asc i (omega arith)

      -- the one that comes next is not that of an entry further on
      later : met s fs i < length fs → get_or fs (met s fs i) 0 < number s i → ⊥
      later m h =
          where_is (met s fs i) m (λ k q e.
          ⊎_elim
          (λ (p : i ≤ k). ⊎_elim (λ (r : k ≤ i). let z : k ≡ i = omega arith in omega (arith, e, h, ap (number s) z)) (λ (r : i < k). omega (arith, e, h, ascending f i k r q)) (le_or_lt k i))
          (λ (p : k < i). w.fresh m k p e)
          (le_or_lt i k))

      go : (t : Bool) → meets fs (met s fs i) (number s i) ≡ t → meets fs (met s fs i) (number s i) ≡ is_in fs (number s i)
      go true e = let h = meets_is fs (met s fs i) (number s i) (omega (arith, f.above i l)) e in e ∙ sym (in_at fs (number s i) (met s fs i) h.0 h.1)
      go false e =
          e ∙ sym (in_nowhere fs (number s i) (λ x h q.
          ⊎_elim
          (λ (p : met s fs i ≤ x).
          ⊎_elim
          (λ (r : x ≤ met s fs i). let z : x ≡ met s fs i = omega arith in true≢false (sym (is_meets fs (met s fs i) (number s i) (ap (λ (k : ℕ). get_or fs k 0) (sym z) ∙ q)) ∙ e))
          (λ (r : met s fs i < x). later (omega arith) (omega (arith, ascends_at fs asc (met s fs i) x r h, q)))
          (le_or_lt x (met s fs i)))
          (λ (p : x < met s fs i).
          let a = w.found x p in
          omega (arith, a.there, q, ascending f a.at i a.before l))
          (le_or_lt (met s fs i) x)))
