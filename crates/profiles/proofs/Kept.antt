-- A list is not refused exactly when each of its records is as the format asks. Assumes nothing.
use borrow.Author.Tests.{ltb-false, eqb-true, eqb-false, not-false, le-ltb, eq-eqb, ne_eqb}
use mathlib.Core.Bool.{false, true≢false}
use mathlib.Core.Path.{◌≡◌, refl, sym, ap, ◌∙◌}
use mathlib.Core.List.{List, [], ◌∷◌}
use Prim.Native.Nat.{ℕ, zero, suc, ◌+◌, ◌*◌, ◌/◌, ◌≤◌, ◌<◌}
use native.Mathlib.Omega.{arith}
use lib.ListN.{length, get_or}
use Rattle.base.specs.Lists.{each, All, Bytes}
use Rattle.base.proofs.Lists.{all_get_d, length_each, each_all}
use Rattle.fields.proofs.Laws.{field_lt}
use Rattle.refusal.specs.declared.Refusal.{Refusal}
use Rattle.refusal.specs.First.{accept}
use Rattle.refusal.proofs.First.{if_false, if_zero, first_all, first_accept, placed_none, placed_number}
use Rattle.text.specs.Drive.{Listed}
use Rattle.profiles.specs.Profiles.{profile_number, profile_current, profile_last, listed, profiles_of, lists, record_rule, record_fault, records_fault, Kept, Distinct}
use Rattle.profiles.proofs.Loops.{lists_yes, lists_no}

-- ---- the numbers before a record

-- none of k records from record i on has the number m
pub lists_differs : (m : ℕ) (b : List ℕ) (i k : ℕ) → lists m b i k ≡ false → (j : ℕ) → j < k → profile_number b (i + j) ≡ m → ⊥
lists_differs m b i zero e j l q = absurd (omega arith)
lists_differs m b i (suc k) e zero l q = true≢false (sym (lists_yes m b i k (ap (profile_number b) (omega arith) ∙ q)) ∙ e)
lists_differs m b i (suc k) e (suc j) l q =
    let h : profile_number b i ≡ m → ⊥ = λ z. true≢false (sym (lists_yes m b i k z) ∙ e) in
    lists_differs m b (suc i) k (sym (lists_no m b i k h) ∙ e) j (omega arith) (ap (profile_number b) (omega arith) ∙ q)

differs_lists : (m : ℕ) (b : List ℕ) (i k : ℕ) → ((j : ℕ) → i ≤ j → j < i + k → profile_number b j ≡ m → ⊥) → lists m b i k ≡ false
unfolding lists
differs_lists m b i zero h = refl
differs_lists m b i (suc k) h =
    lists_no m b i k (h i (omega arith) (omega arith)) ∙ differs_lists m b (suc i) k (λ j l n. h j (omega arith) (omega arith))

-- ---- a record

kept : (b : List ℕ) (i : ℕ) → (record_fault b i).number ≡ 0 → Kept b i
unfolding record_fault record_rule
kept b i e =
    let x = if_zero _ _ _ (sym (placed_number _ (suc i)) ∙ e) in
    let y = if_zero _ _ _ x.1 in
    let z = if_zero _ _ _ y.1 in
    let n : profile_number b i ≡ 0 → ⊥ = eqb-false _ _ x.0 in
    record {
      above = omega arith;
      new = λ j l q. lists_differs (profile_number b i) b 0 i y.0 j l (ap (profile_number b) (omega arith) ∙ q);
      one = ltb-false _ _ z.0;
      nought = eqb-true _ _ (not-false _ (if_zero _ _ _ z.1).0);
    }

rule_accept : (b : List ℕ) (i : ℕ) → Kept b i
    → record_rule (profile_number b i) (lists (profile_number b i) b 0 i) (profile_current b i) (profile_last b i) ≡ accept
unfolding record_rule
rule_accept b i f =
    rw (
      ne_eqb (profile_number b i) 0 (λ z. omega (arith, f.above)),
      if_false,
      differs_lists (profile_number b i) b 0 i (λ j l n. f.new j (omega arith)),
      if_false,
      le-ltb 1 (profile_current b i) f.one,
      if_false,
      eq-eqb (profile_last b i) 0 f.nought,
      if_false,
    )

pub record_accept : (b : List ℕ) (i : ℕ) → Kept b i → record_fault b i ≡ accept
unfolding record_fault
record_accept b i f = placed_none _ (suc i) (ap (λ (r : Refusal). r.number) (rule_accept b i f))

-- ---- the list

module _ (b : List ℕ) where
  pub fault_kept : (records_fault b).number ≡ 0 → (i : ℕ) → i < length b / 4 → Kept b i
  unfolding records_fault
  fault_kept e i l = kept b i (first_all (record_fault b) (length b / 4) e i l)

  pub kept_accept : ((i : ℕ) → i < length b / 4 → Kept b i) → records_fault b ≡ accept
  unfolding records_fault
  kept_accept h =
      first_accept (record_fault b) 0 (length b / 4) (λ j l m. ap (λ (r : Refusal). r.number) (record_accept b j (h j (omega arith))))

  pub length_profiles_of : length (profiles_of b) ≡ length b / 4
  unfolding profiles_of
  length_profiles_of = length_each (listed b) 0 (length b / 4)

  -- the numbers take two bytes
  pub low_of : Bytes b → All (λ (p : Listed). p.number < 65536) (profiles_of b)
  unfolding profiles_of listed profile_number
  low_of bs = each_all (λ (p : Listed). p.number < 65536) (listed b) 0 (length b / 4) (λ j l m. field_lt 2 b (4 * j) bs)

  distinct_from : (i k : ℕ) → ((j : ℕ) → j < i + k → Kept b j) → Distinct (each (listed b) i k)
  unfolding each listed
  distinct_from i zero f = tt
  distinct_from i (suc k) f = (
    (f i (omega arith)).above,
    each_all (λ (q : Listed). q.number ≡ profile_number b i → ⊥) (listed b) (suc i) k (λ j l m e. (f j (omega arith)).new i l (sym e)),
    distinct_from (suc i) k (λ j l. f j (omega arith)),
  )

  pub kept_distinct : ((i : ℕ) → i < length b / 4 → Kept b i) → Distinct (profiles_of b)
  unfolding profiles_of
  kept_distinct h = distinct_from 0 (length b / 4) (λ j l. h j (omega arith))

-- ---- numbers that differ, index by index

pub distinct_above : (ps : List Listed) (z : Listed) → Distinct ps → (i : ℕ) → i < length ps → 0 < (get_or ps i z).number
distinct_above [] z h i l = absurd (omega arith)
distinct_above (p ∷ ps) z h zero l = h.0
distinct_above (p ∷ ps) z h (suc i) l = distinct_above ps z h.2 i (omega arith)

pub distinct_differs : (ps : List Listed) (z : Listed) → Distinct ps → (i j : ℕ) → j < i → i < length ps → (get_or ps j z).number ≡ (get_or ps i z).number → ⊥
distinct_differs [] z h i j l m e = absurd (omega arith)
distinct_differs (p ∷ ps) z h zero j l m e = absurd (omega arith)
distinct_differs (p ∷ ps) z h (suc i) zero l m e = all_get_d (λ (q : Listed). q.number ≡ p.number → ⊥) ps z h.1 i (omega arith) (sym e)
distinct_differs (p ∷ ps) z h (suc i) (suc j) l m e = distinct_differs ps z h.2 i j (omega arith) (omega arith) e
