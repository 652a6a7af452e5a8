-- Sheets that say the same, each in its layout: the same refusal, and where it is accepted the same drive. Names no layout. Assumes nothing.
use mathlib.Core.Path.{◌≡◌, refl, sym, ap, ◌∙◌}
use mathlib.Core.Bool.{not}
use Prim.Native.Nat.{ℕ, zero, suc, ◌+◌, ◌*◌, ◌-◌, ◌≤◌, ◌<◌}
use native.Mathlib.Omega.{arith}
use lib.Dec.{ltb, eqb}
use lib.ListN.{take, drop}
use lib.Seq.{drop-drop}
use Rattle.base.specs.Lists.{each, Bytes}
use Rattle.base.proofs.Lists.{each_same}
use Rattle.refusal.specs.declared.Refusal.{Refusal}
use Rattle.refusal.specs.First.{refuse, accept, ◌if◌else◌, ◌or_else◌, first_of, placed}
use Rattle.refusal.proofs.First.{first_same}
use Rattle.profiles.specs.Profiles.{records_fault, profiles_of}
use Rattle.layout.specs.declared.Layout.{Layout}
use Rattle.layout.specs.declared.Entry.{Entry}
use Rattle.layout.specs.Layout.{Sheet, sheet_size, feature_count, profiles_at, number, flags, body_length, offset, profiles_in, profiles_part}
use Rattle.layout.specs.Contents.{entry_of, laid}
use Rattle.layout.specs.Same.{SameSheet}
use Rattle.layout.proofs.Laid.{laid_same, laid_back, laid_bytes}
use Rattle.sheet.specs.Check.{number_before, end_before_entry, entry_rule, entry_fault, counted, verdict, Accepted}
use Rattle.sheet.specs.Facts.{Facts}
use Rattle.sheet.specs.Meaning.{desc, meaning, sheet_of}
use Rattle.sheet.proofs.Accepted.{facts, behind}
use Rattle.sheet.proofs.Build.{sheet_back}

module _ {s t : Sheet} (e : SameSheet s t) where
  -- ---- the fields of an entry

  number_same : (i : ℕ) → i < feature_count s → number s i ≡ number t i
  unfolding entry_of
  number_same i l = ap (λ (x : Entry). x.number.0) (e.entries i l)

  flags_same : (i : ℕ) → i < feature_count s → flags s i ≡ flags t i
  unfolding entry_of
  flags_same i l = ap (λ (x : Entry). x.flags.0) (e.entries i l)

  length_same : (i : ℕ) → i < feature_count s → body_length s i ≡ body_length t i
  unfolding entry_of
  length_same i l = ap (λ (x : Entry). x.length) (e.entries i l)

  offset_same : (i : ℕ) → i < feature_count s → offset s i ≡ offset t i
  unfolding entry_of
  offset_same i l = ap (λ (x : Entry). x.offset) (e.entries i l)

  -- ---- the rules

  part_same : profiles_part s ≡ profiles_part t
  unfolding profiles_in
  part_same = λ z. take (4 * e.profiles z) (e.behind z)

  number_before_same : (i : ℕ) → i < feature_count s → number_before s i ≡ number_before t i
  unfolding number_before
  number_before_same zero l = refl
  number_before_same (suc i) l = number_same i (omega arith)

  end_before_same : (i : ℕ) → i ≤ feature_count s → end_before_entry s i ≡ end_before_entry t i
  unfolding end_before_entry
  end_before_same zero l = omega (arith, e.features, e.profiles)
  end_before_same (suc i) l = λ z. offset_same i l z + length_same i l z

  entry_fault_same : (i : ℕ) → i < feature_count s → entry_fault s i ≡ entry_fault t i
  unfolding entry_fault
  entry_fault_same i l =
      let x : end_before_entry s i ≡ end_before_entry t i = end_before_same i (omega arith) in
      λ z. placed (entry_rule (number_same i l z) (number_before_same i l z) (flags_same i l z) (length_same i l z) (offset_same i l z) (x z)) (suc i)

  -- ---- the check

  pub verdict_same : verdict s ≡ verdict t
  unfolding verdict counted
  verdict_same =
      let q : first_of (entry_fault s) 0 (feature_count s) ≡ first_of (entry_fault t) 0 (feature_count t) =
      first_same _ _ 0 (feature_count s) (λ j l m. entry_fault_same j (omega arith)) ∙ ap (first_of (entry_fault t) 0) e.features in
      let r : end_before_entry s (feature_count s) ≡ end_before_entry t (feature_count t) =
      end_before_same (feature_count s) (omega arith) ∙ ap (end_before_entry t) e.features in
      λ z.
      refuse 1 if ltb (e.long z) 4 else
      refuse 1 if ltb (e.long z) (4 + 8 * e.features z + 4 * e.profiles z) else
      refuse 2 if ltb 63 (e.profiles z) else
      records_fault (part_same z) or_else
      q z or_else
      refuse 8 if not (eqb (e.long z) (r z)) else
      accept

  -- ---- the meaning

  behind_same : (k : ℕ) → profiles_at s ≤ k → drop k s.bytes ≡ drop k t.bytes
  behind_same k l =
      let x : profiles_at s + (k - profiles_at s) ≡ k = omega arith in
      let u : profiles_at t + (k - profiles_at s) ≡ k = omega (arith, e.features) in
      ap (λ (i : ℕ). drop i s.bytes) (sym x) ∙ sym (drop-drop (k - profiles_at s) (profiles_at s) s.bytes) ∙ ap (drop (k - profiles_at s)) e.behind
      ∙ drop-drop (k - profiles_at s) (profiles_at t) t.bytes ∙ ap (λ (i : ℕ). drop i t.bytes) u

  desc_same : Facts s → (i : ℕ) → i < feature_count s → desc s i ≡ desc t i
  unfolding desc
  desc_same f i l =
      let x : drop (offset s i) s.bytes ≡ drop (offset t i) t.bytes =
      behind_same (offset s i) (omega (arith, behind f i l)) ∙ ap (λ (k : ℕ). drop k t.bytes) (offset_same i l) in
      λ z. record { number = number_same i l z; flags = flags_same i l z; body = take (length_same i l z) (x z) }

  pub meaning_same : Bytes s.bytes → Accepted s → meaning s ≡ meaning t
  unfolding meaning
  meaning_same h k =
      let f : Facts s = facts s h k in
      let q : each (desc s) 0 (feature_count s) ≡ each (desc t) 0 (feature_count t) =
      each_same _ _ 0 (feature_count s) (λ j l m. desc_same f j (omega arith)) ∙ ap (each (desc t) 0) e.features in
      λ z. record { profiles = profiles_of (part_same z); features = q z }

-- ---- a sheet laid out anew

-- the same refusal, of every byte string that is long enough for its counts
pub laid_verdict : (l : Layout) (s : Sheet) → Bytes s.bytes → profiles_at s ≤ sheet_size s → verdict (laid l s) ≡ verdict s
laid_verdict l s b r = sym (verdict_same (laid_same l s b r))

pub accepted_room : (s : Sheet) → Bytes s.bytes → Accepted s → profiles_at s ≤ sheet_size s
accepted_room s b k = let f : Facts s = facts s b k in omega (arith, f.room)

-- of every accepted sheet: the same drive, accepted again, and back as it was
pub laid_meaning : (l : Layout) (s : Sheet) → Bytes s.bytes → Accepted s → meaning (laid l s) ≡ meaning s
laid_meaning l s b k = sym (meaning_same (laid_same l s b (accepted_room s b k)) b k)

pub laid_accepted : (l : Layout) (s : Sheet) → Bytes s.bytes → Accepted s → Accepted (laid l s)
laid_accepted l s b k = ap (λ (r : Refusal). r.number) (laid_verdict l s b (accepted_room s b k)) ∙ k

pub laid_undone : (l : Layout) (s : Sheet) → Bytes s.bytes → Accepted s → laid s.layout (laid l s) ≡ s
laid_undone l s b k = laid_back l s b (accepted_room s b k)

-- the sheet of what it means is the sheet itself, laid out so
pub laid_of : (l : Layout) (s : Sheet) → Bytes s.bytes → Accepted s → sheet_of l (meaning s) ≡ laid l s
unfolding laid
laid_of l s b k = ap (sheet_of l) (sym (laid_meaning l s b k)) ∙ sheet_back (laid l s) (laid_bytes l s b (accepted_room s b k)) (laid_accepted l s b k)
