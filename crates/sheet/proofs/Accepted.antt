-- A sheet is accepted exactly when the facts of an accepted sheet hold of it, and what follows from these. Assumes nothing.
use mathlib.Core.Path.{◌≡◌, refl, sym, ap, ◌∙◌}
use Prim.Native.Nat.{ℕ, zero, suc, ◌+◌, ◌*◌, ◌-◌, ◌%◌, ◌≤◌, ◌<◌}
use native.Mathlib.Nat.{add-suc, add-zero, le_refl, div-add-mod}
use native.Mathlib.Omega.{arith}
use lib.ListN.{length, drop, length-drop}
use lib.Seq.{length-take-le}
use borrow.Author.Tests.{ltb-false, leb-false, eqb-true, not-false, le-ltb, lt-leb, eq-eqb, ne_eqb}
use Rattle.base.specs.Lists.{Bytes}
use Rattle.base.proofs.Lists.{bytes_drop, bytes_take}
use Rattle.fields.proofs.Laws.{field_lt}
use Rattle.refusal.specs.declared.Refusal.{Refusal}
use Rattle.refusal.specs.First.{accept, first_of}
use Rattle.refusal.proofs.First.{if_false, or_else_none, if_zero, or_else_zero, first_all, first_accept, placed_none, placed_number}
use Rattle.profiles.proofs.Kept.{fault_kept, kept_accept}
use Rattle.layout.specs.Layout.{Sheet, sheet_size, features, feature_count, profile_count, profiles_at, bodies_at, flags_place, length_place, number_place, number, flags, body_length, offset, profiles_in, profiles_part}
use Rattle.sheet.specs.Check.{number_before, end_before_entry, flags_rule, entry_rule, entry_fault, counted, verdict, Accepted}
use Rattle.sheet.specs.Facts.{Facts}

-- ---- the fields of a list of bytes

pub feature_count_lt : (s : Sheet) → Bytes s.bytes → feature_count s < 65536
unfolding features
feature_count_lt s b = field_lt 2 s.bytes 0 b

pub number_lt : (s : Sheet) (i : ℕ) → Bytes s.bytes → number s i < 65536
unfolding number
number_lt s i b = field_lt 2 s.bytes (number_place s.layout (feature_count s) i) b

pub flags_lt : (s : Sheet) (i : ℕ) → Bytes s.bytes → flags s i < 256
unfolding flags
flags_lt s i b = b (flags_place s.layout (feature_count s) i)

pub body_length_lt : (s : Sheet) (i : ℕ) → Bytes s.bytes → body_length s i < 256
unfolding body_length
body_length_lt s i b = b (length_place s.layout (feature_count s) i)

pub bytes_profiles_part : (s : Sheet) → Bytes s.bytes → Bytes (profiles_part s)
unfolding profiles_in
bytes_profiles_part s b = bytes_take (4 * profile_count s) (drop (profiles_at s) s.bytes) (bytes_drop (profiles_at s) s.bytes b)

-- with room for it the profile part has four bytes a profile
pub length_profiles_part : (s : Sheet) → bodies_at s ≤ sheet_size s → length (profiles_part s) ≡ 4 * profile_count s
unfolding profiles_in
length_profiles_part s h = length-take-le (4 * profile_count s) (drop (profiles_at s) s.bytes) (omega (arith, length-drop (profiles_at s) s.bytes))

-- ---- an entry that is accepted

pub record EntryGood (num before flag len off end : ℕ) : Type 0 where
  pub above : before < num
  pub legal : (flags_rule flag).number ≡ 0
  pub four : len % 4 ≡ 0
  pub follows : off ≡ end

entry_good : (num before flag len off end : ℕ) → (entry_rule num before flag len off end).number ≡ 0 → EntryGood num before flag len off end
unfolding entry_rule
entry_good num before flag len off end e =
    let a = if_zero _ _ _ (if_zero _ _ _ e).1 in
    let b = or_else_zero _ _ a.1 in
    let d = if_zero _ _ _ b.1 in
    let g = if_zero _ _ _ d.1 in
    record {
      above = leb-false _ _ a.0;
      legal = b.0;
      four = eqb-true _ _ (not-false _ d.0);
      follows = eqb-true _ _ (not-false _ g.0);
    }

pub entry_accept : (num before flag len off end : ℕ) → EntryGood num before flag len off end → entry_rule num before flag len off end ≡ accept
unfolding entry_rule
entry_accept num before flag len off end g =
    rw (ne_eqb num 0 (omega arith), if_false, lt-leb num before g.above, if_false, or_else_none (flags_rule flag) _ g.legal, eq-eqb (len % 4) 0 g.four, if_false, eq-eqb off end g.follows, if_false)

-- ---- the steps from one entry to the next

module _ (s : Sheet) (follows : (i : ℕ) → i < feature_count s → offset s i ≡ end_before_entry s i) where
  step_end : (i : ℕ) → i < feature_count s → end_before_entry s (suc i) ≡ end_before_entry s i + body_length s i
  unfolding end_before_entry
  step_end i l = ap (λ (k : ℕ). k + body_length s i) (follows i l)

  rises : (i k : ℕ) → i + k ≤ feature_count s → end_before_entry s i ≤ end_before_entry s (i + k)
  rises i zero l = rw add-zero (omega arith)
  rises i (suc k) l = rw add-suc (omega (arith, rises i k (omega arith), step_end (i + k) (omega arith)))

  rises_to : (i j : ℕ) → i ≤ j → j ≤ feature_count s → end_before_entry s i ≤ end_before_entry s j
  rises_to i j l m =
      let e : i + (j - i) ≡ j = omega arith in
      rw e at (rises i (j - i) (omega arith))

-- ---- accepted exactly when the facts hold

fours : (n : ℕ) → n < 256 → n % 4 ≡ 0 → n ≤ 252
fours n l e = omega (arith, div-add-mod n 4)

pub facts : (s : Sheet) → Bytes s.bytes → Accepted s → Facts s
unfolding verdict counted entry_fault
facts s bs e =
    let a = if_zero _ _ _ (if_zero _ _ _ e).1 in
    let b = if_zero _ _ _ a.1 in
    let d = or_else_zero _ _ b.1 in
    let g = or_else_zero _ _ d.1 in
    let k = if_zero _ _ _ g.1 in
    let room : bodies_at s ≤ sheet_size s = ltb-false _ _ a.0 in
    let q : (i : ℕ) → i < feature_count s → EntryGood (number s i) (number_before s i) (flags s i) (body_length s i) (offset s i) (end_before_entry s i) =
    λ i h. entry_good _ _ _ _ _ _ (sym (placed_number _ (suc i)) ∙ first_all _ _ g.0 i h) in
    let end : sheet_size s ≡ end_before_entry s (feature_count s) = eqb-true _ _ (not-false _ k.0) in
    let fol : (i : ℕ) → i < feature_count s → offset s i ≡ end_before_entry s i = λ i h. (q i h).follows in
    record {
      room = room;
      ends = end;
      few = ltb-false _ _ b.0;
      profiles = λ i h. fault_kept (profiles_part s) d.0 i (omega (arith, length_profiles_part s room));
      above = λ i h. (q i h).above;
      legal = λ i h. (q i h).legal;
      four = λ i h. (q i h).four;
      short = λ i h. fours (body_length s i) (body_length_lt s i bs) (q i h).four;
      follows = fol;
      inside = λ i h. omega (arith, end, fol i h, step_end s fol i h, rises_to s fol (suc i) (feature_count s) h (le_refl (feature_count s)));
    }

module _ (s : Sheet) (f : Facts s) where
  entry_fine : (i : ℕ) → i < feature_count s → entry_fault s i ≡ accept
  unfolding entry_fault
  entry_fine i h =
      placed_none _ (suc i) (ap (λ (r : Refusal). r.number) (entry_accept _ _ _ _ _ _ record { above = f.above i h; legal = f.legal i h; four = f.four i h; follows = f.follows i h }))

all_fine : (fault : ℕ → Refusal) (n : ℕ) → ((i : ℕ) → i < n → fault i ≡ accept) → (first_of fault 0 n).number ≡ 0
all_fine fault n h =
    ap (λ (r : Refusal). r.number) (first_accept fault 0 n (λ j l m. ap (λ (r : Refusal). r.number) (h j (omega arith))))

pub accept_of : (s : Sheet) → Facts s → verdict s ≡ accept
unfolding verdict counted
accept_of s f =
    rw (
      le-ltb (sheet_size s) 4 (omega (arith, f.room)),
      if_false,
      le-ltb (sheet_size s) (bodies_at s) f.room,
      if_false,
      le-ltb 63 (profile_count s) f.few,
      if_false,
      kept_accept (profiles_part s) (λ i h. f.profiles i (omega (arith, length_profiles_part s f.room))),
      or_else_none accept _ refl,
      or_else_none (first_of (entry_fault s) 0 (feature_count s)) _ (all_fine (entry_fault s) (feature_count s) (entry_fine s f)),
      eq-eqb (sheet_size s) (end_before_entry s (feature_count s)) f.ends,
      if_false,
    )

-- ---- what follows from the facts

module _ {s : Sheet} (f : Facts s) where
  -- each body starts where the one before ends
  pub end_next : (i : ℕ) → i < feature_count s → end_before_entry s (suc i) ≡ end_before_entry s i + body_length s i
  end_next = step_end s f.follows

  pub end_rises : (i j : ℕ) → i ≤ j → j ≤ feature_count s → end_before_entry s i ≤ end_before_entry s j
  end_rises = rises_to s f.follows

  -- the bodies lie behind the profiles
  pub behind : (i : ℕ) → i < feature_count s → bodies_at s ≤ offset s i
  unfolding end_before_entry
  behind i l = omega (arith, f.follows i l, end_rises 0 i (omega arith) (omega arith))

  -- the feature numbers ascend
  next_above : (i : ℕ) → suc i < feature_count s → number s i < number s (suc i)
  unfolding number_before
  next_above i l = f.above (suc i) l

  far_above : (i k : ℕ) → i + suc k < feature_count s → number s i < number s (i + suc k)
  far_above i zero l = rw add-suc (rw add-zero (next_above i (omega arith)))
  far_above i (suc k) l = rw add-suc (omega (arith, far_above i k (omega arith), next_above (i + suc k) (omega arith)))

  pub ascending : (i j : ℕ) → i < j → j < feature_count s → number s i < number s j
  ascending i j l m =
      let e : i + suc (j - suc i) ≡ j = omega arith in
      rw e at (far_above i (j - suc i) (omega arith))
