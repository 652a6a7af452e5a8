-- The fields before an entry, and the rule at them. Assumes nothing.
use mathlib.Core.Path.{◌≡◌, refl, sym, ap, ◌∙◌}
use mathlib.Core.Bool.{not}
use mathlib.Core.List.{List}
use Prim.Native.Nat.{ℕ, zero, suc, ◌+◌, ◌-◌, ◌*◌, ◌≤◌}
use native.Mathlib.Numerals.{add-one}
use native.Mathlib.Omega.{arith}
use lib.Dec.{eqb}
use lib.ListN.{length, drop, length-take}
use Rattle.refusal.specs.declared.Refusal.{Refusal}
use Rattle.refusal.specs.First.{refuse, accept, ◌if◌else◌, first_of, placed}
use Rattle.refusal.proofs.First.{tests, rest, first_none, or_else_none}
use Rattle.profiles.specs.Profiles.{records_fault, stopped}
use Rattle.profiles.proofs.Stopped.{records_short}
use Rattle.layout.specs.declared.Entry.{Entry}
use Rattle.layout.specs.Layout.{Sheet, sheet_size, features, profiles, feature_count, profile_count, profiles_behind, bodies_at, profiles_in, offset, body_length}
use Rattle.layout.specs.Contents.{entry_of}
use Rattle.sheet.specs.Check.{number_before, end_before_entry, entry_rule, entry_fault, entries_verdict, counted, verdict}

pub end_before : (s : Sheet) (i : ℕ) → (i ≡ 0 → ⊥) → end_before_entry s i ≡ offset s (i - 1) + body_length s (i - 1)
unfolding end_before_entry
end_before s zero h = absurd (h refl)
end_before s (suc i) h = ap (λ (k : ℕ). offset s k + body_length s k) (omega arith)

-- with room for its counts a sheet is judged by them
pub verdict_counted : (s : Sheet) → 4 ≤ sheet_size s → bodies_at s ≤ sheet_size s → verdict s ≡ counted s (feature_count s) (profile_count s)
unfolding verdict
verdict_counted s h k = search tests

-- in a list of at most 63 profiles a place is the profile's own
pub few_records : (b : List ℕ) (p : ℕ) (x : List ℕ) (r : Refusal) → p ≡ profiles b → p ≤ 63 → x ≡ profiles_in b → r ≡ stopped (records_fault x) → r ≡ records_fault x
unfolding profiles_in
few_records b p x r e h q k =
    k ∙ records_short x (omega (arith, ap length q, length-take (4 * profiles b) (drop (profiles_behind (features b)) b)))

-- the rule at entry i as it was read, and at what was carried along from the one before
pub carried : (s : Sheet) (i before end : ℕ) (e : Entry) (r : Refusal) → before ≡ number_before s i → end ≡ end_before_entry s i → e ≡ entry_of s i
    → r ≡ entry_rule e.number.0 before e.flags.0 e.length e.offset end → (p : Refusal) → p ≡ placed r (i + 1) → p ≡ entry_fault s i
unfolding entry_fault entry_of
carried s i before end e r p q h k v w =
    w ∙ rw add-one (ap (λ (x : Refusal). placed x (suc i)) (k ∙ (λ j. entry_rule (h j).number.0 (p j) (h j).flags.0 (h j).length (h j).offset (q j))))

-- what it leaves for the next one
pub next_number : (s : Sheet) (i : ℕ) (e : Entry) → e ≡ entry_of s i → e.number.0 ≡ number_before s (i + 1)
unfolding number_before entry_of
next_number s i e h = rw add-one (λ j. (h j).number.0)

pub next_end : (s : Sheet) (i : ℕ) (e : Entry) → e ≡ entry_of s i → e.offset + e.length ≡ end_before_entry s (i + 1)
unfolding end_before_entry entry_of
next_end s i e h = rw add-one (λ j. (h j).offset + (h j).length)

-- behind the last one only the sheet's end is left to look at
pub behind_last : (s : Sheet) (n i end : ℕ) → first_of (entry_fault s) 0 n ≡ rest (entry_fault s) n i → end ≡ end_before_entry s i → i ≤ n → n ≤ i
    → entries_verdict s n ≡ (refuse 8 if not (eqb (sheet_size s) end) else accept)
behind_last s n i end f e h k =
    let none : first_of (entry_fault s) 0 n ≡ accept = sym (first_none (entry_fault s) n i f k) in
    let last : end_before_entry s n ≡ end = ap (end_before_entry s) {x = n} {y = i} (omega arith) ∙ sym e in
    rw (none, last) (or_else_none accept (refuse 8 if not (eqb (sheet_size s) end) else accept) refl)
