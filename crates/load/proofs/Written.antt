-- The bytes that are set make the sheet as the medium leaves it. Assumes nothing.
use mathlib.Core.Path.{◌≡◌, refl, sym, ap, ◌∙◌}
use mathlib.Core.Bool.{Bool, true, false}
use mathlib.Core.List.{List, ◌∷◌, map}
use Prim.Native.Nat.{ℕ, zero, suc, ◌+◌, ◌*◌, ◌/◌, ◌%◌, ◌≤◌, ◌<◌}
use native.Mathlib.Nat.{div-add-mod}
use native.Mathlib.Omega.{arith}
use lib.Dec.{eqb}
use lib.ListN.{length, get_or, take, drop, length-drop}
use lib.Seq.{get_or-take, get_or-drop, ext_get_or}
use Rattle.base.specs.Lists.{each, Bytes}
use Rattle.text.specs.Drive.{Drive, bit}
use Rattle.refusal.specs.declared.Refusal.{Refusal}
use Rattle.profiles.specs.Profiles.{profile_number, profile_current, profile_last, listed, profiles_of, Kept}
use Rattle.layout.specs.Layout.{Sheet, stored, sheet_size, features, profiles, feature_count, profile_count, profiles_at, bodies_at, number_place, flags_place, length_place, offset_place, number, flags, body_length, offset, profiles_in, profiles_part}
use Rattle.layout.proofs.Laws.{fields_inside}
use Rattle.layout.proofs.Places.{flags_behind, flags_apart, number_apart, length_apart, offset_apart}
use Rattle.sheet.specs.Check.{number_before, end_before_entry, flags_rule, Accepted}
use Rattle.sheet.specs.Facts.{Facts}
use Rattle.sheet.specs.Meaning.{desc, meaning, sheet_of}
use Rattle.sheet.proofs.Accepted.{accept_of, behind, flags_lt, length_profiles_part}
use Rattle.sheet.proofs.Build.{sheet_back}
use Rattle.load.specs.Load.{is_in, ascends, lacks, flags_with, feature_with, profile_with, drive_with, loaded}
use Rattle.load.specs.inner.Beside.{flags_met}
use Rattle.load.specs.inner.Patch.{flags_patched, current_place, current_byte, sheet_patched}
use Rattle.load.proofs.Beside.{met_is}
use Rattle.load.proofs.With.{bit_low, with_low, with_legal}
use Rattle.load.proofs.Patch.{length_patched, bytes_patched, patched_other, patched_at, field_kept}

pub bit_back : (u : Bool) → eqb (bit u % 2) 1 ≡ u
bit_back true = refl
bit_back false = refl

pub each_map : {A B : Type 0} (g : ℕ → B) (h : ℕ → A) (k : A → B) (i c : ℕ) → ((j : ℕ) → i ≤ j → j < i + c → g j ≡ k (h j)) → each g i c ≡ map k (each h i c)
unfolding each
each_map g h k i zero e = refl
each_map g h k i (suc c) e = λ z. e i (omega arith) (omega arith) z ∷ each_map g h k (suc i) c (λ j l m. e j (omega arith) (omega arith)) z

module _ (fs ps : List ℕ) {s : Sheet} (f : Facts s) where
  abbrev n : ℕ
  n = feature_count s

  abbrev fp : ℕ → ℕ
  fp = flags_place s.layout n

  -- the sheet that is made
  abbrev t : Sheet
  t = stored s.layout (sheet_patched fs ps s)

  part_length : length (profiles_part s) ≡ 4 * profile_count s
  part_length = length_profiles_part s f.room

  pub part_count : length (profiles_part s) / 4 ≡ profile_count s
  part_count = omega (arith, part_length, div-add-mod (length (profiles_part s)) 4)

  pub patched_length : length (sheet_patched fs ps s) ≡ sheet_size s
  unfolding sheet_patched
  patched_length = length_patched (current_place s) (current_byte ps s) (flags_patched fs s) (length (profiles_part s) / 4) ∙ length_patched fp (flags_met s fs) s.bytes n

  -- ---- what stays

  pub patched_kept : (x : ℕ) → ((j : ℕ) → j < n → x ≡ fp j → ⊥) → ((j : ℕ) → j < profile_count s → x ≡ current_place s j → ⊥) → get_or (sheet_patched fs ps s) x 0 ≡ get_or s.bytes x 0
  unfolding sheet_patched
  patched_kept x h g =
      patched_other (current_place s) (current_byte ps s) (flags_patched fs s) (length (profiles_part s) / 4) x (λ j l. g j (omega (arith, part_count)))
      ∙ patched_other fp (flags_met s fs) s.bytes n x h

  -- of the contents what is no flags
  kept_before : (x : ℕ) → x < profiles_at s → ((j : ℕ) → j < n → x ≡ fp j → ⊥) → get_or (sheet_patched fs ps s) x 0 ≡ get_or s.bytes x 0
  kept_before x l h = patched_kept x h (λ j m e. omega (arith, e))

  -- behind the contents what is no third byte of a profile
  kept_behind : (x : ℕ) → profiles_at s ≤ x → ((j : ℕ) → j < profile_count s → x ≡ current_place s j → ⊥) → get_or (sheet_patched fs ps s) x 0 ≡ get_or s.bytes x 0
  kept_behind x l g = patched_kept x (λ j m e. omega (arith, e, (fields_inside s.layout n j m).flags)) g

  same_features : feature_count t ≡ n
  unfolding features
  same_features = field_kept 2 s.bytes (sheet_patched fs ps s) 0 (λ k l. kept_before (0 + k) (omega arith) (λ j m e. omega (arith, e, flags_behind s.layout n j)))

  same_profiles : profile_count t ≡ profile_count s
  unfolding profiles
  same_profiles = field_kept 2 s.bytes (sheet_patched fs ps s) 2 (λ k l. kept_before (2 + k) (omega arith) (λ j m e. omega (arith, e, flags_behind s.layout n j)))

  same_number : (i : ℕ) → i < n → number t i ≡ number s i
  unfolding number
  same_number i l =
      rw same_features (field_kept 2 s.bytes (sheet_patched fs ps s) (number_place s.layout n i)
      (λ k m. kept_before (number_place s.layout n i + k) (omega (arith, (fields_inside s.layout n i l).number)) (λ j q. number_apart s.layout n i j k l q m)))

  same_length : (i : ℕ) → i < n → body_length t i ≡ body_length s i
  unfolding body_length
  same_length i l =
      rw same_features (kept_before (length_place s.layout n i) (omega (arith, (fields_inside s.layout n i l).length)) (λ j q. length_apart s.layout n i j l q))

  same_offset : (i : ℕ) → i < n → offset t i ≡ offset s i
  unfolding offset
  same_offset i l =
      rw same_features (field_kept 4 s.bytes (sheet_patched fs ps s) (offset_place s.layout n i)
      (λ k m. kept_before (offset_place s.layout n i + k) (omega (arith, (fields_inside s.layout n i l).offset)) (λ j q. offset_apart s.layout n i j k l q m)))

  same_behind : (k : ℕ) → bodies_at s ≤ k → drop k (sheet_patched fs ps s) ≡ drop k s.bytes
  same_behind k l =
      ext_get_or 0 (drop k (sheet_patched fs ps s)) (drop k s.bytes) (omega (arith, length-drop k (sheet_patched fs ps s), length-drop k s.bytes, patched_length))
      (λ i m. get_or-drop k (sheet_patched fs ps s) i 0 ∙ kept_behind (k + i) (omega arith) (λ j q e. omega (arith, e)) ∙ sym (get_or-drop k s.bytes i 0))

  -- ---- what changes

  pub patched_flags : (i : ℕ) → i < n → get_or (sheet_patched fs ps s) (fp i) 0 ≡ flags_met s fs i
  unfolding sheet_patched
  patched_flags i l =
      patched_other (current_place s) (current_byte ps s) (flags_patched fs s) (length (profiles_part s) / 4) (fp i) (λ j m e. omega (arith, e, (fields_inside s.layout n i l).flags))
      ∙ patched_at fp (flags_met s fs) s.bytes n (λ a b h k. flags_apart s.layout n a b h) (λ j m. omega (arith, (fields_inside s.layout n j m).flags, f.room)) i l

  set_flags : (i : ℕ) → i < n → flags t i ≡ flags_met s fs i
  unfolding flags
  set_flags i l = rw same_features (patched_flags i l)

  pub patched_current : (i : ℕ) → i < profile_count s → get_or (sheet_patched fs ps s) (current_place s i) 0 ≡ current_byte ps s i
  unfolding sheet_patched
  patched_current i l =
      patched_at (current_place s) (current_byte ps s) (flags_patched fs s) (length (profiles_part s) / 4) (λ a b h k e. omega (arith, e))
      (λ j m. omega (arith, part_count, f.room, length_patched fp (flags_met s fs) s.bytes n)) i (omega (arith, part_count))

  -- ---- the profiles

  abbrev q : List ℕ
  q = profiles_part s

  abbrev r : List ℕ
  r = profiles_part t

  -- byte x of the profile part stands there in the sheet
  part_at : (x : ℕ) → x < 4 * profile_count s → get_or q x 0 ≡ get_or s.bytes (profiles_at s + x) 0
  unfolding profiles_in
  part_at x l = get_or-take (4 * profile_count s) (drop (profiles_at s) s.bytes) x 0 l ∙ get_or-drop (profiles_at s) s.bytes x 0

  part_then : (x : ℕ) → x < 4 * profile_count s → get_or r x 0 ≡ get_or (sheet_patched fs ps s) (profiles_at s + x) 0
  unfolding profiles_in
  part_then x l =
      rw (same_features, same_profiles) (get_or-take (4 * profile_count s) (drop (profiles_at s) (sheet_patched fs ps s)) x 0 l ∙ get_or-drop (profiles_at s) (sheet_patched fs ps s) x 0)

  count_then : length r / 4 ≡ profile_count s
  count_then =
      let room : bodies_at t ≤ sheet_size t = omega (arith, same_features, same_profiles, patched_length, f.room) in
      omega (arith, length_profiles_part t room, same_profiles, div-add-mod (length r) 4)

  part_kept : (x : ℕ) → x < 4 * profile_count s → ((j : ℕ) → x ≡ 4 * j + 2 → ⊥) → get_or r x 0 ≡ get_or q x 0
  part_kept x l h = part_then x l ∙ kept_behind (profiles_at s + x) (omega arith) (λ j m e. h j (omega (arith, e))) ∙ sym (part_at x l)

  pub same_profile : (i : ℕ) → i < profile_count s → profile_number r i ≡ profile_number q i
  unfolding profile_number
  same_profile i l = field_kept 2 q r (4 * i) (λ k m. part_kept (4 * i + k) (omega arith) (λ j e. omega (arith, e)))

  same_last : (i : ℕ) → i < profile_count s → profile_last r i ≡ profile_last q i
  unfolding profile_last
  same_last i l = part_kept (4 * i + 3) (omega arith) (λ j e. omega (arith, e))

  set_current : (i : ℕ) → i < profile_count s → profile_current r i ≡ current_byte ps s i
  unfolding profile_current
  set_current i l =
      let x : profiles_at s + (4 * i + 2) ≡ current_place s i = omega arith in
      part_then (4 * i + 2) (omega arith) ∙ ap (λ (k : ℕ). get_or (sheet_patched fs ps s) k 0) x ∙ patched_current i l

  then_kept : (i : ℕ) → i < profile_count s → Kept r i
  then_kept i l =
      let k : Kept q i = f.profiles i l in
      record {
        above = omega (arith, same_profile i l, k.above);
        new = λ j m e. k.new j m (sym (same_profile j (omega arith)) ∙ e ∙ same_profile i l);
        one = omega (arith, set_current i l, bit_low (is_in ps (profile_number q i)));
        nought = same_last i l ∙ k.nought;
      }

  -- ---- the sheet that is made is accepted, and means what it should

  same_before : (i : ℕ) → i < n → number_before t i ≡ number_before s i
  unfolding number_before
  same_before zero l = refl
  same_before (suc i) l = same_number i (omega arith)

  same_end : (i : ℕ) → i ≤ n → end_before_entry t i ≡ end_before_entry s i
  unfolding end_before_entry
  same_end zero l = omega (arith, same_features, same_profiles)
  same_end (suc i) l = omega (arith, same_offset i l, same_length i l)

  then_facts : Facts t
  unfolding flags_met
  then_facts =
      let c : (i : ℕ) → i < feature_count t → i < n = λ i h. omega (arith, same_features) in
      record {
        room = omega (arith, same_features, same_profiles, patched_length, f.room);
        ends = patched_length ∙ f.ends ∙ sym (same_end n (omega arith)) ∙ ap (end_before_entry t) (sym same_features);
        few = omega (arith, same_profiles, f.few);
        profiles = λ i h. then_kept i (omega (arith, same_profiles));
        above = λ i h. omega (arith, same_before i (c i h), same_number i (c i h), f.above i (c i h));
        legal = λ i h. ap (λ (k : ℕ). (flags_rule k).number) (set_flags i (c i h)) ∙ with_legal _ (flags s i) (f.legal i (c i h));
        four = λ i h. ap (λ (k : ℕ). k % 4) (same_length i (c i h)) ∙ f.four i (c i h);
        short = λ i h. omega (arith, same_length i (c i h), f.short i (c i h));
        follows = λ i h. same_offset i (c i h) ∙ f.follows i (c i h) ∙ sym (same_end i (omega (arith, c i h)));
        inside = λ i h. omega (arith, same_offset i (c i h), same_length i (c i h), patched_length, f.inside i (c i h));
      }

  pub patched_accepted : Accepted t
  patched_accepted = ap (λ (v : Refusal). v.number) (accept_of t then_facts)

  then_bytes : Bytes s.bytes → Bytes (sheet_patched fs ps s)
  unfolding sheet_patched flags_met
  then_bytes b =
      bytes_patched (current_place s) (current_byte ps s) (length (profiles_part s) / 4) (flags_patched fs s) (λ j l. omega (arith, bit_low (is_in ps (profile_number q j))))
      (bytes_patched fp (flags_met s fs) n s.bytes (λ j l. with_low _ (flags s j) (flags_lt s j b)) b)

  module _ (asc : ascends fs ≡ true) (none : lacks (each (number s) 0 n) fs ≡ false) where
    then_flags : (i : ℕ) → i < n → flags t i ≡ flags_with (is_in fs (number s i)) (flags s i)
    unfolding flags_met
    then_flags i l = set_flags i l ∙ ap (λ (u : Bool). flags_with u (flags s i)) (met_is f fs asc none i l)

    then_desc : (i : ℕ) → i < n → desc t i ≡ feature_with fs (desc s i)
    unfolding desc feature_with
    then_desc i l =
        let x : drop (offset t i) (sheet_patched fs ps s) ≡ drop (offset s i) s.bytes =
        ap (λ (k : ℕ). drop k (sheet_patched fs ps s)) (same_offset i l) ∙ same_behind (offset s i) (behind f i l) in
        λ z. record { number = same_number i l z; flags = then_flags i l z; body = take (same_length i l z) (x z) }

    then_listed : (i : ℕ) → i < profile_count s → listed r i ≡ profile_with ps (listed q i)
    unfolding listed profile_with
    then_listed i l = λ z. record { number = same_profile i l z; on = (ap (λ (k : ℕ). eqb (k % 2) 1) (set_current i l) ∙ bit_back (is_in ps (profile_number q i))) z }

    then_means : meaning t ≡ drive_with fs ps (meaning s)
    unfolding meaning drive_with profiles_of
    then_means =
        let a : each (listed r) 0 (length r / 4) ≡ map (profile_with ps) (each (listed q) 0 (length q / 4)) =
        ap (each (listed r) 0) (omega (arith, part_count, count_then)) ∙ each_map (listed r) (listed q) (profile_with ps) 0 (length q / 4) (λ j h m. then_listed j (omega (arith, part_count))) in
        let d : each (desc t) 0 (feature_count t) ≡ map (feature_with fs) (each (desc s) 0 n) =
        ap (each (desc t) 0) same_features ∙ each_map (desc t) (desc s) (feature_with fs) 0 n (λ j h m. then_desc j (omega arith)) in
        λ z. record { profiles = a z; features = d z }

    -- so it is the sheet as the medium leaves it
    pub patched_loaded : Bytes s.bytes → sheet_patched fs ps s ≡ (loaded fs ps s).bytes
    unfolding loaded
    patched_loaded b =
        sym (ap (λ (x : Sheet). x.bytes) (sheet_back t (then_bytes b) patched_accepted))
        ∙ ap (λ (m : Drive). (sheet_of s.layout m).bytes) then_means
