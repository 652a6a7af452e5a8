-- A sheet laid out anew is the same sheet, and laid out back it is as it was. Names no layout. Assumes nothing.
use mathlib.Core.Path.{◌≡◌, sym, ap, ◌∙◌}
use mathlib.Core.List.{List, ◌++◌, append_assoc}
use Prim.Native.Nat.{ℕ, ◌+◌, ◌*◌, ◌≤◌, ◌<◌}
use native.Mathlib.Nat.{zero-add}
use native.Mathlib.Omega.{arith}
use lib.ListN.{length, get_or, take, drop, length-append, length-drop, take-append-drop}
use lib.Seq.{length-take-le, take-append_seam, take-add}
use Rattle.base.specs.Lists.{each, Bytes, All}
use Rattle.base.proofs.Lists.{length_each, get_d_each, each_get_d, each_all, drop_behind, bytes_append, bytes_take, bytes_drop}
use Rattle.fields.specs.Field.{field}
use Rattle.fields.proofs.Laws.{field_lt, field_take}
use Rattle.layout.specs.declared.Layout.{Layout}
use Rattle.layout.specs.declared.Entry.{Entry}
use Rattle.layout.specs.Layout.{Sheet, sheet_size, features, profiles, feature_count, profile_count, profiles_at, number_place, flags_place, length_place, offset_place, number, flags, body_length, offset}
use Rattle.layout.specs.Contents.{entry_of, contents, entries, laid, Fits}
use Rattle.layout.specs.Same.{SameSheet}
use Rattle.layout.proofs.Contents.{length_contents, bytes_contents, entry_written, contents_back}

-- what is read of bytes fits
entry_fits : (s : Sheet) (i : ℕ) → Bytes s.bytes → Fits (entry_of s i)
unfolding entry_of number flags body_length offset
entry_fits s i b = record {
  number_fits = field_lt 2 s.bytes (number_place s.layout (feature_count s) i) b;
  flags_fits = b (flags_place s.layout (feature_count s) i);
  length_fits = b (length_place s.layout (feature_count s) i);
  offset_fits = field_lt 4 s.bytes (offset_place s.layout (feature_count s) i) b;
}

abbrev no_entry : Entry
no_entry = record { number = record { 0 = 0 }; flags = record { 0 = 0 }; length = 0; offset = 0 }

module _ (l : Layout) (s : Sheet) (b : Bytes s.bytes) (room : profiles_at s ≤ sheet_size s) where
  head_length : length (take 4 s.bytes) ≡ 4
  head_length = length-take-le 4 s.bytes (omega arith)

  apart : (laid l s).bytes ≡ take 4 s.bytes ++ (contents l (entries s) ++ drop (profiles_at s) s.bytes)
  unfolding laid
  apart = append_assoc (take 4 s.bytes) (contents l (entries s)) (drop (profiles_at s) s.bytes)

  laid_head : take 4 (laid l s).bytes ≡ take 4 s.bytes
  laid_head =
      rw apart (ap (λ (k : ℕ). take k (take 4 s.bytes ++ (contents l (entries s) ++ drop (profiles_at s) s.bytes))) (sym head_length)
      ∙ take-append_seam (take 4 s.bytes) (contents l (entries s) ++ drop (profiles_at s) s.bytes))

  laid_rest : drop 4 (laid l s).bytes ≡ contents l (entries s) ++ drop (profiles_at s) s.bytes
  laid_rest = drop_behind (laid l s).bytes 0 (take 4 s.bytes) _ 4 apart head_length

  head_field : (at : ℕ) → at + 2 ≤ 4 → field 2 (laid l s).bytes at ≡ field 2 s.bytes at
  head_field at h = sym (field_take 2 4 (laid l s).bytes at h) ∙ ap (λ (x : List ℕ). field 2 x at) laid_head ∙ field_take 2 4 s.bytes at h

  laid_features : feature_count (laid l s) ≡ feature_count s
  unfolding features
  laid_features = head_field 0 (omega arith)

  laid_profiles : profile_count (laid l s) ≡ profile_count s
  unfolding profiles
  laid_profiles = head_field 2 (omega arith)

  count : length (entries s) ≡ feature_count s
  count = length_each (entry_of s) 0 (feature_count s)

  laid_behind : drop (profiles_at s) (laid l s).bytes ≡ drop (profiles_at s) s.bytes
  laid_behind = drop_behind (laid l s).bytes 4 (contents l (entries s)) _ (8 * feature_count s) laid_rest (length_contents l (entries s) ∙ ap (λ (k : ℕ). 8 * k) count)

  pub laid_length : sheet_size (laid l s) ≡ sheet_size s
  laid_length =
      omega (arith, ap length apart, length-append (take 4 s.bytes) (contents l (entries s) ++ drop (profiles_at s) s.bytes), length-append (contents l (entries s)) (drop (profiles_at s) s.bytes), head_length, length_contents l (entries s), count, length-drop (profiles_at s) s.bytes)

  all_fit : All Fits (entries s)
  all_fit = each_all Fits (entry_of s) 0 (feature_count s) (λ j h k. entry_fits s j b)

  pub laid_bytes : Bytes (laid l s).bytes
  laid_bytes =
      let x : Bytes (take 4 s.bytes) = bytes_take 4 s.bytes b in
      let y : Bytes (contents l (entries s)) = bytes_contents l (entries s) all_fit in
      let z : Bytes (drop (profiles_at s) s.bytes) = bytes_drop (profiles_at s) s.bytes b in
      rw apart (search (bytes_append, x, y, z))

  laid_entry : (i : ℕ) → i < feature_count s → entry_of (laid l s) i ≡ entry_of s i
  unfolding laid
  laid_entry i h =
      let x : get_or (entries s) i no_entry ≡ entry_of s i = get_d_each (entry_of s) no_entry 0 (feature_count s) i h ∙ ap (entry_of s) (zero-add i) in
      let f : Fits (get_or (entries s) i no_entry) = rw x (entry_fits s i b) in
      entry_written (laid l s) (entries s) _ no_entry i laid_rest (laid_features ∙ sym count) (omega (arith, count)) f ∙ x

  -- the same sheet
  pub laid_same : SameSheet s (laid l s)
  laid_same = record {
    long = sym laid_length;
    features = sym laid_features;
    profiles = sym laid_profiles;
    entries = λ i h. sym (laid_entry i h);
    behind = sym laid_behind ∙ ap (λ (k : ℕ). drop (4 + 8 * k) (laid l s).bytes) (sym laid_features);
  }

  laid_entries : entries (laid l s) ≡ entries s
  laid_entries =
      ap (λ (k : ℕ). each (entry_of (laid l s)) 0 k) laid_features
      ∙ each_get_d (entry_of (laid l s)) (entries s) no_entry (feature_count s) count
      (λ i h. laid_entry i h ∙ sym (get_d_each (entry_of s) no_entry 0 (feature_count s) i h ∙ ap (entry_of s) (zero-add i)))

-- laid out as it is already, it is as it was
pub laid_own : (s : Sheet) → Bytes s.bytes → profiles_at s ≤ sheet_size s → laid s.layout s ≡ s
unfolding laid
laid_own s b room = λ k. record { layout = s.layout; bytes = whole k }
  where
    whole : take 4 s.bytes ++ contents s.layout (entries s) ++ drop (profiles_at s) s.bytes ≡ s.bytes
    whole = rw (contents_back s b room, ← take-add 4 (8 * feature_count s) s.bytes) (take-append-drop (profiles_at s) s.bytes)

-- laid out twice, it is as laid out the second time
pub laid_again : (l k : Layout) (s : Sheet) → Bytes s.bytes → profiles_at s ≤ sheet_size s → laid k (laid l s) ≡ laid k s
unfolding laid
laid_again l k s b room = λ z. record { layout = k; bytes = whole z }
  where
    rest : drop (profiles_at (laid l s)) (laid l s).bytes ≡ drop (profiles_at s) s.bytes
    rest = ap (λ (m : ℕ). drop (4 + 8 * m) (laid l s).bytes) (laid_features l s b room) ∙ laid_behind l s b room

    whole : (laid k (laid l s)).bytes ≡ (laid k s).bytes
    whole = λ z. laid_head l s b room z ++ contents k (laid_entries l s b room z) ++ rest z

-- laid out back, it is as it was
pub laid_back : (l : Layout) (s : Sheet) → Bytes s.bytes → profiles_at s ≤ sheet_size s → laid s.layout (laid l s) ≡ s
laid_back l s b room = laid_again l s.layout s b room ∙ laid_own s b room
