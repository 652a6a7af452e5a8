-- Which profile or entry a refusal names. Assumes nothing.
use borrow.Author.Tests.{ltb-true, ltb-false, eqb-true, eqb-false, not-true, not-false}
use mathlib.Core.Path.{◌≡◌, refl, sym, ap, ◌∙◌}
use mathlib.Core.Bool.{Bool, true, false, true≢false}
use mathlib.Core.Logic.{◌⊎◌, inl, inr, ⊎_elim}
use mathlib.Core.List.{List}
use Prim.Native.Nat.{ℕ, zero, suc, ◌+◌, ◌/◌, ◌≤◌, ◌<◌}
use native.Mathlib.Omega.{arith}
use lib.Dec.{eqb}
use lib.ListN.{length}
use Rattle.refusal.specs.declared.Refusal.{Refusal}
use Rattle.refusal.specs.First.{accept, first_of, placed}
use Rattle.refusal.specs.Lines.{of_entry, has_place, Names}
use Rattle.refusal.proofs.First.{first_accepts}
use Rattle.refusal.proofs.Lines.{if_by, Nowhere, EntryOnly, right_nowhere, right_there, entry_place, first_names, names_as}
use Rattle.profiles.specs.Profiles.{profile_number, profile_current, profile_last, lists, record_rule, record_fault, records_fault, Kept}
use Rattle.profiles.specs.Lines.{Repeats, Spoilt, Located}
use Rattle.profiles.proofs.Loops.{lists_yes, lists_no}
use Rattle.profiles.proofs.Kept.{fault_kept}

-- ---- a number among k records from record i on

record Has (m : ℕ) (b : List ℕ) (i k : ℕ) : Type 0 where
  at : ℕ
  within : at < k
  same : profile_number b (i + at) ≡ m

lists_has : (m : ℕ) (b : List ℕ) (i k : ℕ) → lists m b i k ≡ true → Has m b i k
unfolding lists
lists_has m b i zero e = absurd (true≢false (sym e))
lists_has m b i (suc k) e = go (eqb (profile_number b i) m) refl (lists_has m b (suc i) k)
  where
    go : (t : Bool) → eqb (profile_number b i) m ≡ t → (lists m b (suc i) k ≡ true → Has m b (suc i) k) → Has m b i (suc k)
    go true q h = record { at = 0; within = omega arith; same = ap (profile_number b) (omega arith) ∙ eqb-true _ _ q }
    go false q h =
        let x = h (sym (lists_no m b i k (eqb-false _ _ q)) ∙ e) in
        record { at = suc x.at; within = omega (arith, x.within); same = ap (profile_number b) (omega arith) ∙ x.same }

lists_lacks : (m : ℕ) (b : List ℕ) (i k : ℕ) → lists m b i k ≡ false → Has m b i k → ⊥
lists_lacks m b i k e x = go i k x.at e x.within x.same
  where
    go : (i k j : ℕ) → lists m b i k ≡ false → j < k → profile_number b (i + j) ≡ m → ⊥
    go i zero j e l q = absurd (omega arith)
    go i (suc k) zero e l q = true≢false (sym (lists_yes m b i k (ap (profile_number b) (omega arith) ∙ q)) ∙ e)
    go i (suc k) (suc j) e l q =
        go (suc i) k j (sym (lists_no m b i k (λ z. true≢false (sym (lists_yes m b i k z) ∙ e))) ∙ e) (omega arith) (ap (profile_number b) (omega arith) ∙ q)

-- ---- a record

-- what is refused of it
abbrev record_rule_at : List ℕ → ℕ → Refusal
record_rule_at b i = record_rule (profile_number b i) (lists (profile_number b i) b 0 i) (profile_current b i) (profile_last b i)

-- 3, or nothing
abbrev Judged : List ℕ → ℕ → Refusal → Type 0
Judged b i r = ((r.number ≡ 3) × Spoilt b i) ⊎ ((r.number ≡ 0) × Kept b i)

repeats : (b : List ℕ) (i : ℕ) → Has (profile_number b i) b 0 i → Repeats b i
repeats b i x = record { earlier = x.at; is_earlier = x.within; same_number = ap (profile_number b) (omega arith) ∙ x.same }

judged : (b : List ℕ) (i : ℕ) → Judged b i (record_rule_at b i)
unfolding record_rule
judged b i =
    if_by (Judged b i) _ _ _ (λ e. inl (refl, inl (eqb-true _ _ e)))
    (λ above. if_by (Judged b i) _ _ _ (λ e. inl (refl, inr (inl (repeats b i (lists_has _ _ _ _ e)))))
    (λ new. if_by (Judged b i) _ _ _ (λ e. inl (refl, inr (inr (inl (ltb-true _ _ e)))))
    (λ one. if_by (Judged b i) _ _ _ (λ e. inl (refl, inr (inr (inr (eqb-false _ _ (not-true _ e))))))
    (λ nought. inr (
      refl,
      record {
        above = let n : profile_number b i ≡ 0 → ⊥ = eqb-false _ _ above in omega arith;
        new = λ j l q. lists_lacks _ _ _ _ new record { at = j; within = l; same = ap (profile_number b) (omega arith) ∙ q };
        one = ltb-false _ _ one;
        nought = eqb-true _ _ (not-false _ nought);
      },
    )))))

spoilt : (b : List ℕ) (i : ℕ) → ((record_rule_at b i).number ≡ 0 → ⊥) → ((record_rule_at b i).number ≡ 3) × Spoilt b i
spoilt b i h = ⊎_elim (λ (x : ((record_rule_at b i).number ≡ 3) × Spoilt b i). x) (λ (x : ((record_rule_at b i).number ≡ 0) × Kept b i). absurd (h x.0)) (judged b i)

kept : (b : List ℕ) (i : ℕ) → (record_rule_at b i).number ≡ 0 → Kept b i
kept b i e = ⊎_elim (λ (x : ((record_rule_at b i).number ≡ 3) × Spoilt b i). absurd (omega (arith, x.0))) (λ (x : ((record_rule_at b i).number ≡ 0) × Kept b i). x.1) (judged b i)

-- ---- the list

module _ (b : List ℕ) (h : (records_fault b).number ≡ 0 → ⊥) where
  records_first : Names (λ i. (record_rule_at b i).number ≡ (records_fault b).number) (λ i. (record_rule_at b i).number ≡ 0) (length b / 4) (records_fault b).place
  unfolding record_fault records_fault
  records_first = first_names (record_rule_at b) (length b / 4) (records_fault b) refl h

  -- the only number is 3
  records_three : (records_fault b).number ≡ 3
  records_three =
      let x = records_first in
      sym x.is_bad ∙ (spoilt b x.named (λ z. h (sym x.is_bad ∙ z))).0

  records_named : (p : ℕ) → length b / 4 ≤ p → Names (Spoilt b) (Kept b) p (records_fault b).place
  records_named p l = names_as records_first l (λ i e. (spoilt b i (λ z. h (sym e ∙ z))).1) (kept b)

-- its number is none of an entry
pub records_not_entry : (b : List ℕ) → of_entry (records_fault b).number ≡ false
unfolding of_entry
records_not_entry b = go (records_fault b).number refl
  where
    go : (n : ℕ) → (records_fault b).number ≡ n → of_entry (records_fault b).number ≡ false
    go zero e = ap of_entry e
    go (suc n) e = ap of_entry (records_three b (λ z. omega arith))

-- ---- a refusal without a place, with a profile's, with an entry's

module _ (b : List ℕ) (p : ℕ) (rule : ℕ → Refusal) (n : ℕ) where
  pub located_nowhere : (r : Refusal) → r.place ≡ 0 → Nowhere r → Located b p rule n r
  unfolding of_entry has_place
  located_nowhere r e h =
      let none : has_place r.number ≡ true → ⊥ = λ k. true≢false (sym k ∙ h) in
      record {
        right_place = right_nowhere r e h;
        profile_named = λ k. absurd (none (ap has_place k));
        entry_named = λ k. absurd (none (entry_place r.number k));
        all_kept = λ k. absurd (none (entry_place r.number k));
      }

  pub located_profile : ((records_fault b).number ≡ 0 → ⊥) → length b / 4 ≤ p → Located b p rule n (records_fault b)
  unfolding of_entry has_place
  located_profile h l =
      let x = records_named b h p l in
      record {
        right_place = right_there (records_fault b) x.counted_from_1 (ap has_place (records_three b h));
        profile_named = λ k. x;
        entry_named = λ k. absurd (true≢false (sym k ∙ records_not_entry b));
        all_kept = λ k. absurd (true≢false (sym k ∙ records_not_entry b));
      }

  pub located_entry : (records_fault b).number ≡ 0 → p ≤ length b / 4 → ((i : ℕ) → EntryOnly (rule i))
      → (r : Refusal) → r ≡ first_of (λ i. placed (rule i) (suc i)) 0 n → (r.number ≡ 0 → ⊥) → Located b p rule n r
  unfolding of_entry
  located_entry none l only r e h =
      let x = first_names rule n r e h in
      let k : of_entry r.number ≡ true = ap of_entry (sym x.is_bad) ∙ only x.named (λ z. h (sym x.is_bad ∙ z)) in
      record {
        right_place = right_there r x.counted_from_1 (entry_place r.number k);
        profile_named = λ q. absurd (true≢false (sym k ∙ ap of_entry q));
        entry_named = λ q. x;
        all_kept = λ q i m. fault_kept b none i (omega arith);
      }

  -- nothing behind the entries
  pub located_first : (records_fault b).number ≡ 0 → p ≤ length b / 4 → ((i : ℕ) → EntryOnly (rule i))
      → (r : Refusal) → r ≡ first_of (λ i. placed (rule i) (suc i)) 0 n → Located b p rule n r
  unfolding of_entry has_place
  located_first none l only r e = go r.number refl
    where
      go : (k : ℕ) → r.number ≡ k → Located b p rule n r
      go zero q =
          let a : r ≡ accept = e ∙ first_accepts _ 0 n (sym (ap (λ (x : Refusal). x.number) e) ∙ q) in
          located_nowhere r (ap (λ (x : Refusal). x.place) a) (ap has_place q)
      go (suc k) q = located_entry none l only r e (λ z. omega arith)
