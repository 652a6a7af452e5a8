-- The accepted sheets are exactly the sheets of the drives that a sheet can describe, one for each in each layout. Assumes nothing.
use mathlib.Core.Path.{◌≡◌, refl, sym, ap, ◌∙◌}
use mathlib.Core.List.{List, [], ◌∷◌, ◌++◌, append_assoc}
use Prim.Native.Nat.{ℕ, zero, suc, ◌+◌, ◌*◌, ◌%◌, ◌≤◌, ◌<◌}
use native.Mathlib.Nat.{le_refl}
use native.Mathlib.Omega.{arith}
use lib.ListN.{length, take, drop, get_or, length-append, take-append-drop, drop_of_length-le}
use lib.Seq.{drop-drop, take-add, take_at, take-append_seam, take-length}
use Rattle.base.specs.Lists.{each, flat, All, Bytes}
use Rattle.base.proofs.Lists.{length_each, bytes_append, bytes_flat, all_get_d, all_map, each_get_d, flat_cut, flat_take_suc, drop_flat, drop_behind}
use Rattle.fields.specs.Field.{spell}
use Rattle.fields.proofs.Laws.{length_spell, bytes_spell, spell_field, field_here}
use Rattle.refusal.specs.declared.Refusal.{Refusal}
use Rattle.text.specs.Drive.{Desc, Drive, Good, profile_bytes}
use Rattle.layout.specs.declared.Layout.{Layout}
use Rattle.layout.specs.Layout.{Sheet, sheet_size, features, profiles, feature_count, profile_count, number, body_length, offset, profiles_in, profiles_part}
use Rattle.layout.specs.Contents.{entry_of, contents, Fits}
use Rattle.layout.proofs.Contents.{length_contents, bytes_contents, entry_written, contents_back}
use Rattle.sheet.specs.Check.{number_before, end_before_entry, flags_rule, Accepted}
use Rattle.sheet.specs.Facts.{Facts}
use Rattle.sheet.specs.Meaning.{desc, entry, meaning, entries_of, sheet_of, Fine}
use Rattle.sheet.proofs.Accepted.{facts, accept_of, end_next, length_profiles_part, bytes_profiles_part}
use Rattle.sheet.proofs.Meaning.{profiles_count, body_length_law}
use Rattle.profiles.specs.Profiles.{profiles_of}
use Rattle.profiles.proofs.Again.{profiles_back, profiles_written, kept_written}
use Rattle.text.proofs.Profiles.{length_profiles, bytes_profiles}
use Rattle.sheet.proofs.Pieces.{body, no_entry, length_entries, get_d_entries, EntryReads, entry_reads}
use Rattle.sheet.proofs.Fine.{asc_first, asc_next, count_low}
use Rattle.sheet.proofs.Longest.{length_sheet, length_sheet_le}

-- where the bodies of a drive's sheet start, and where body i does
abbrev base : Drive → ℕ
base m = 4 + 8 * length m.features + 4 * length m.profiles

abbrev start : Drive → ℕ → ℕ
start m i = base m + length (flat body (take i m.features))

abbrev no_desc : Desc
no_desc = record { number = 0; flags = 0; body = [] }

-- ---- where the pieces of a drive's sheet stand

module _ (lay : Layout) (m : Drive) where
  at_counts : (sheet_of lay m).bytes ≡ spell 2 (length m.features) ++ (spell 2 (length m.profiles) ++ (contents lay (entries_of (base m) m.features) ++ (flat profile_bytes m.profiles ++ flat body m.features)))
  unfolding sheet_of
  at_counts = simp append_assoc

  at_second : drop 2 (sheet_of lay m).bytes ≡ spell 2 (length m.profiles) ++ (contents lay (entries_of (base m) m.features) ++ (flat profile_bytes m.profiles ++ flat body m.features))
  at_second = drop_behind (sheet_of lay m).bytes 0 (spell 2 (length m.features)) _ 2 at_counts (length_spell 2 (length m.features))

  at_contents : drop 4 (sheet_of lay m).bytes ≡ contents lay (entries_of (base m) m.features) ++ (flat profile_bytes m.profiles ++ flat body m.features)
  at_contents = drop_behind (sheet_of lay m).bytes 2 (spell 2 (length m.profiles)) _ 2 at_second (length_spell 2 (length m.profiles))

  at_profiles : drop (4 + 8 * length m.features) (sheet_of lay m).bytes ≡ flat profile_bytes m.profiles ++ flat body m.features
  at_profiles = drop_behind (sheet_of lay m).bytes 4 (contents lay (entries_of (base m) m.features)) _ (8 * length m.features) at_contents (length_contents lay (entries_of (base m) m.features) ∙ ap (λ (k : ℕ). 8 * k) (length_entries (base m) m.features))

  at_bodies : drop (base m) (sheet_of lay m).bytes ≡ flat body m.features
  at_bodies = drop_behind (sheet_of lay m).bytes (4 + 8 * length m.features) (flat profile_bytes m.profiles) _ (4 * length m.profiles) at_profiles (length_profiles m.profiles)

  at_body : (i : ℕ) → i < length m.features
      → drop (start m i) (sheet_of lay m).bytes ≡ (get_or m.features i no_desc).body ++ flat body (drop (suc i) m.features)
  at_body i l =
      sym (drop-drop (length (flat body (take i m.features))) (base m) (sheet_of lay m).bytes)
      ∙ ap (drop (length (flat body (take i m.features)))) at_bodies
      ∙ drop_flat body m.features no_desc i l

  start_next : (i : ℕ) → i < length m.features → start m (suc i) ≡ start m i + length (get_or m.features i no_desc).body
  start_next i l =
      omega (arith, ap length (flat_take_suc body m.features no_desc i l), length-append (flat body (take i m.features)) (get_or m.features i no_desc).body)

  start_le : (i : ℕ) → start m i ≤ sheet_size (sheet_of lay m)
  start_le i = omega (arith, length_sheet lay m, ap length (flat_cut body i m.features), length-append (flat body (take i m.features)) (flat body (drop i m.features)))

  start_end : start m (length m.features) ≡ sheet_size (sheet_of lay m)
  start_end = ap (λ (ds : List Desc). base m + length (flat body ds)) (take-length m.features) ∙ sym (length_sheet lay m)

-- ---- what the check and the meaning find in the sheet of a fine drive

module _ (lay : Layout) {m : Drive} (f : Fine m) where
  feature_count_here : feature_count (sheet_of lay m) ≡ length m.features
  unfolding features
  feature_count_here = field_here (sheet_of lay m).bytes 0 2 (length m.features) _ (at_counts lay m) (omega (arith, count_low f))

  profile_count_here : profile_count (sheet_of lay m) ≡ length m.profiles
  unfolding profiles
  profile_count_here = field_here (sheet_of lay m).bytes 2 2 (length m.profiles) _ (at_second lay m) (omega (arith, f.sound.few))

  good_at : (i : ℕ) → i < length m.features → Good (get_or m.features i no_desc)
  good_at = all_get_d Good m.features no_desc f.sound.good

  entry_at : (i : ℕ) → i < length m.features → EntryReads (sheet_of lay m) i (start m i) (get_or m.features i no_desc)
  unfolding sheet_of
  entry_at i l =
      let e : get_or (entries_of (base m) m.features) i no_entry ≡ entry (start m i) (get_or m.features i no_desc) = get_d_entries (base m) m.features no_desc i l in
      let w : Fits (entry (start m i) (get_or m.features i no_desc)) = record {
        number_fits = (good_at i l).number_low;
        flags_fits = (good_at i l).flags_low;
        length_fits = omega (arith, (good_at i l).short);
        offset_fits = omega (arith, start_le lay m i, length_sheet_le lay m f);
      } in
      entry_reads (sheet_of lay m) i (start m i) (get_or m.features i no_desc)
      (entry_written (sheet_of lay m) (entries_of (base m) m.features) _ no_entry i (at_contents lay m) (feature_count_here ∙ sym (length_entries (base m) m.features)) (omega (arith, length_entries (base m) m.features)) (rw e w) ∙ e)

  part_is : profiles_part (sheet_of lay m) ≡ flat profile_bytes m.profiles
  unfolding profiles_in
  part_is =
      rw (feature_count_here, profile_count_here)
      (ap (take (4 * length m.profiles)) (at_profiles lay m) ∙ take_at (flat profile_bytes m.profiles) (flat body m.features) (4 * length m.profiles) (length_profiles m.profiles))

  end_is : (i : ℕ) → i ≤ length m.features → end_before_entry (sheet_of lay m) i ≡ start m i
  unfolding end_before_entry flat
  end_is zero l = omega (arith, feature_count_here, profile_count_here)
  end_is (suc i) l = omega (arith, (entry_at i l).offset_is, (entry_at i l).length_is, start_next lay m i l)

  above_before : (i : ℕ) → i < length m.features → number_before (sheet_of lay m) i < number (sheet_of lay m) i
  unfolding number_before
  above_before zero l = omega (arith, (entry_at 0 l).number_is, asc_first 1 m.features no_desc f.sound.ascending l)
  above_before (suc i) l =
      omega (arith, (entry_at i (omega arith)).number_is, (entry_at (suc i) l).number_is, asc_next 1 m.features no_desc f.sound.ascending i l)

  sheet_facts : Facts (sheet_of lay m)
  sheet_facts =
      let n : (i : ℕ) → i < feature_count (sheet_of lay m) → i < length m.features = λ i h. omega (arith, feature_count_here) in
      record {
        room = omega (arith, feature_count_here, profile_count_here, length_sheet lay m);
        ends = sym (start_end lay m) ∙ sym (end_is (length m.features) (le_refl (length m.features))) ∙ ap (end_before_entry (sheet_of lay m)) (sym feature_count_here);
        few = omega (arith, profile_count_here, f.sound.few);
        profiles = λ i h. rw part_is (kept_written m.profiles f.sound.profiles_low f.distinct i (omega (arith, profile_count_here, length_profiles m.profiles)));
        above = λ i h. above_before i (n i h);
        legal = λ i h.
            ap (λ (k : ℕ). (flags_rule k).number) (entry_at i (n i h)).flags_is
            ∙ all_get_d (λ (d : Desc). (flags_rule d.flags).number ≡ 0) m.features no_desc f.legal i (n i h);
        four = λ i h. ap (λ (k : ℕ). k % 4) (entry_at i (n i h)).length_is ∙ (good_at i (n i h)).four;
        short = λ i h. omega (arith, (entry_at i (n i h)).length_is, (good_at i (n i h)).short);
        follows = λ i h. (entry_at i (n i h)).offset_is ∙ sym (end_is i (omega (arith, n i h)));
        inside = λ i h. omega (arith, (entry_at i (n i h)).offset_is, (entry_at i (n i h)).length_is, start_next lay m i (n i h), start_le lay m (suc i));
      }

  -- the descriptor of entry i
  desc_is : (i : ℕ) → i < length m.features → desc (sheet_of lay m) i ≡ get_or m.features i no_desc
  unfolding desc
  desc_is i l =
      let e : take (body_length (sheet_of lay m) i) (drop (offset (sheet_of lay m) i) (sheet_of lay m).bytes) ≡ (get_or m.features i no_desc).body =
      ap (λ (k : ℕ). take k (drop (offset (sheet_of lay m) i) (sheet_of lay m).bytes)) (entry_at i l).length_is
      ∙ ap (λ (k : ℕ). take (length (get_or m.features i no_desc).body) (drop k (sheet_of lay m).bytes)) (entry_at i l).offset_is
      ∙ ap (take (length (get_or m.features i no_desc).body)) (at_body lay m i l)
      ∙ take-append_seam (get_or m.features i no_desc).body (flat body (drop (suc i) m.features)) in
      λ k. record { number = (entry_at i l).number_is k; flags = (entry_at i l).flags_is k; body = e k }

pub sheet_accepted : (lay : Layout) (m : Drive) → Fine m → Accepted (sheet_of lay m)
sheet_accepted lay m f = ap (λ (r : Refusal). r.number) (accept_of (sheet_of lay m) (sheet_facts lay f))

pub sheet_means : (lay : Layout) (m : Drive) → Fine m → meaning (sheet_of lay m) ≡ m
unfolding meaning
sheet_means lay m f =
    let a : profiles_of (profiles_part (sheet_of lay m)) ≡ m.profiles =
    ap profiles_of (part_is lay f) ∙ profiles_written m.profiles f.sound.profiles_low in
    let b : each (desc (sheet_of lay m)) 0 (feature_count (sheet_of lay m)) ≡ m.features =
    each_get_d (desc (sheet_of lay m)) m.features no_desc (feature_count (sheet_of lay m)) (sym (feature_count_here lay f))
    (λ i l. desc_is lay f i (omega (arith, feature_count_here lay f))) in
    λ k. record { profiles = a k; features = b k }

-- ---- the sheet of a fine drive is made of bytes

entries_fit : (at : ℕ) (ds : List Desc) → All Good ds → at + length (flat body ds) < 4294967296 → All Fits (entries_of at ds)
unfolding entries_of flat
entries_fit at [] h l = tt
entries_fit at (d ∷ ds) h l =
    let n = length-append d.body (flat body ds) in (
      record { number_fits = h.0.number_low; flags_fits = h.0.flags_low; length_fits = omega (arith, h.0.short); offset_fits = omega arith },
      entries_fit (at + length d.body) ds h.1 (omega (arith, n)),
    )

pub sheet_bytes_law : (lay : Layout) {m : Drive} → Fine m → Bytes (sheet_of lay m).bytes
sheet_bytes_law lay {m} f =
    let a : Bytes (flat profile_bytes m.profiles) = bytes_profiles m.profiles in
    let b : Bytes (flat body m.features) = bytes_flat body m.features (all_map Good (λ (d : Desc). Bytes d.body) (λ d g. g.bytes) m.features f.sound.good) in
    let c : Bytes (contents lay (entries_of (base m) m.features)) =
    bytes_contents lay (entries_of (base m) m.features) (entries_fit (base m) m.features f.sound.good (omega (arith, length_sheet lay m, length_sheet_le lay m f))) in
    rw (at_counts lay m) (search (bytes_append, bytes_spell, a, b, c))

-- ---- an accepted sheet is the sheet of its meaning

module _ {s : Sheet} (f : Facts s) where
  entries_back : (i k : ℕ) → i + k ≤ feature_count s → entries_of (end_before_entry s i) (each (desc s) i k) ≡ each (entry_of s) i k
  unfolding entries_of each desc entry_of
  entries_back i zero l = refl
  entries_back i (suc k) l =
      let x : length (take (body_length s i) (drop (offset s i) s.bytes)) ≡ body_length s i = body_length_law f i (omega arith) in
      let e : end_before_entry s i + length (take (body_length s i) (drop (offset s i) s.bytes)) ≡ end_before_entry s (suc i) = omega (arith, end_next f i (omega arith), x) in
      rw (e, x, entries_back (suc i) k (omega arith), f.follows i (omega arith))

  bodies_back : (i k : ℕ) → i + k ≡ feature_count s → flat body (each (desc s) i k) ≡ drop (end_before_entry s i) s.bytes
  unfolding flat each desc
  bodies_back i zero e =
      let g : i ≡ feature_count s = omega arith in
      sym (drop_of_length-le s.bytes {i = end_before_entry s i} (omega (arith, f.ends, ap (end_before_entry s) g)))
  bodies_back i (suc k) e =
      rw (bodies_back (suc i) k (omega arith), end_next f i (omega arith), f.follows i (omega arith), ← drop-drop (body_length s i) (end_before_entry s i) s.bytes)
      (take-append-drop (body_length s i) (drop (end_before_entry s i) s.bytes))

-- the profile part is what the profiles are written as
pub part_back : (s : Sheet) → Bytes s.bytes → Facts s → flat profile_bytes (meaning s).profiles ≡ profiles_part s
unfolding meaning
part_back s b f =
    let l : length (profiles_part s) ≡ 4 * profile_count s = length_profiles_part s f.room in
    profiles_back (profiles_part s) (bytes_profiles_part s b) (omega arith) (λ i h. f.profiles i (omega arith))

-- the pieces, one behind the other, are the sheet
pieces_back : (b : List ℕ) (n p : ℕ) → take 2 b ++ take 2 (drop 2 b) ++ take (8 * n) (drop 4 b) ++ take (4 * p) (drop (4 + 8 * n) b) ++ drop (4 + 8 * n + 4 * p) b ≡ b
pieces_back b n p = rw (← take-add 2 2 b, ← take-add 4 (8 * n) b, ← take-add (4 + 8 * n) (4 * p) b) (take-append-drop (4 + 8 * n + 4 * p) b)

back_of : (s : Sheet) → Bytes s.bytes → Facts s → (sheet_of s.layout (meaning s)).bytes ≡ s.bytes
unfolding sheet_of meaning features profiles end_before_entry profiles_in
back_of s b f =
    let x : spell 2 (feature_count s) ≡ take 2 s.bytes = spell_field 2 s.bytes 0 b (omega (arith, f.room)) in
    let y : spell 2 (profile_count s) ≡ take 2 (drop 2 s.bytes) = spell_field 2 s.bytes 2 b (omega (arith, f.room)) in
    rw (
      length_each (desc s) 0 (feature_count s),
      profiles_count s f,
      x,
      y,
      entries_back f 0 (feature_count s) (omega arith),
      contents_back s b (omega (arith, f.room)),
      part_back s b f,
      bodies_back f 0 (feature_count s) (omega arith),
    )
    (pieces_back s.bytes (feature_count s) (profile_count s))

pub sheet_back : (s : Sheet) → Bytes s.bytes → Accepted s → sheet_of s.layout (meaning s) ≡ s
unfolding sheet_of
sheet_back s b e = λ k. record { layout = s.layout; bytes = back_of s b (facts s b e) k }
