-- What is sent of a full response. Assumes nothing.
use mathlib.Core.Path.{◌≡◌, refl, sym, ap, ◌∙◌}
use mathlib.Core.List.{List, [], ◌∷◌, ◌++◌, append_assoc}
use Prim.Native.Nat.{ℕ, ◌≤◌, min}
use native.Mathlib.Nat.{mod-eq_of_lt}
use native.Mathlib.Omega.{arith}
use lib.ListN.{length, take, drop, length-append, length-take}
use lib.Seq.{take_all, take_at, take-take, drop_at}
use Rattle.base.specs.Lists.{flat, Bytes}
use Rattle.base.proofs.Lists.{bytes_one, bytes_append, bytes_take, bytes_flat, all_map, take_prefix}
use Rattle.fields.specs.Field.{field, spell}
use Rattle.fields.proofs.Laws.{length_spell, bytes_spell, field_spell, field_drop, field_take}
use Rattle.text.specs.Drive.{Desc, Drive, Good, Sound}
use Rattle.text.specs.Response.{bytes, selected, current_profile, header, data_length, full, sent}
use Rattle.text.proofs.Selection.{selected_good}
use Rattle.text.proofs.Sizes.{length_header, data_length_low, profile_low}

-- ---- the full response

pub bytes_bytes : (d : Desc) → Good d → Bytes (bytes d)
unfolding bytes
bytes_bytes d g =
    let head : Bytes (d.flags ∷ length d.body ∷ []) = bytes_append (d.flags ∷ []) (length d.body ∷ []) (bytes_one d.flags g.flags_low) (bytes_one (length d.body) (omega (arith, g.short))) in
    bytes_append (spell 2 d.number ++ (d.flags ∷ length d.body ∷ [])) d.body
    (bytes_append (spell 2 d.number) (d.flags ∷ length d.body ∷ []) (bytes_spell 2 d.number) head)
    g.bytes

pub bytes_header : (n profile : ℕ) → Bytes (header n profile)
unfolding header
bytes_header n profile =
    bytes_append (spell 4 n ++ (0 ∷ 0 ∷ [])) (spell 2 profile)
    (bytes_append (spell 4 n) (0 ∷ 0 ∷ []) (bytes_spell 4 n) (bytes_append (0 ∷ []) (0 ∷ []) (bytes_one 0 (omega arith)) (bytes_one 0 (omega arith))))
    (bytes_spell 2 profile)

pub bytes_full : {m : Drive} → Sound m → (rt sfn : ℕ) → Bytes (full rt sfn m)
unfolding full
bytes_full {m} s rt sfn =
    let ds : List Desc = selected rt sfn m in
    bytes_append (header (data_length ds) (current_profile m.profiles)) (flat bytes ds)
    (bytes_header (data_length ds) (current_profile m.profiles))
    (bytes_flat bytes ds (all_map Good (λ (d : Desc). Bytes (bytes d)) bytes_bytes ds (selected_good s rt sfn)))

-- Data Length and what stands behind it
abbrev behind_length : (rt sfn : ℕ) → Drive → List ℕ
behind_length rt sfn m = 0 ∷ 0 ∷ spell 2 (current_profile m.profiles) ++ flat bytes (selected rt sfn m)

full_length : (rt sfn : ℕ) (m : Drive) → full rt sfn m ≡ spell 4 (data_length (selected rt sfn m)) ++ behind_length rt sfn m
unfolding full header
full_length rt sfn m = simp append_assoc

full_profile : (rt sfn : ℕ) (m : Drive) → drop 6 (full rt sfn m) ≡ spell 2 (current_profile m.profiles) ++ flat bytes (selected rt sfn m)
unfolding full header
full_profile rt sfn m =
    let n : ℕ = data_length (selected rt sfn m) in
    let p : ℕ = current_profile m.profiles in
    ap (drop 6) (append_assoc (spell 4 n ++ (0 ∷ 0 ∷ [])) (spell 2 p) (flat bytes (selected rt sfn m)))
    ∙ drop_at (spell 4 n ++ (0 ∷ 0 ∷ [])) (spell 2 p ++ flat bytes (selected rt sfn m)) 6 (omega (arith, length-append (spell 4 n) (0 ∷ 0 ∷ []), length_spell 4 n))

-- ---- how much of it is sent

module _ (rt sfn a : ℕ) (m : Drive) where
  -- a front of the full response
  pub sent_prefix : sent rt sfn a m ≡ take (length (sent rt sfn a m)) (full rt sfn m)
  unfolding sent
  sent_prefix = take_prefix (min a 65534) (full rt sfn m)

  -- the smallest of allocation length, return limit and full length
  pub length_sent : length (sent rt sfn a m) ≡ min (min a 65534) (length (full rt sfn m))
  unfolding sent
  length_sent = length-take (min a 65534) (full rt sfn m)

  pub sent_whole_here : length (full rt sfn m) ≤ 65534 → length (full rt sfn m) ≤ a → sent rt sfn a m ≡ full rt sfn m
  unfolding sent
  sent_whole_here h k = take_all (min a 65534) (full rt sfn m) (omega arith)

  pub sent_limit : 65534 ≤ length (full rt sfn m) → 65534 ≤ a → length (sent rt sfn a m) ≡ 65534
  sent_limit h k = omega (arith, length_sent)

  pub bytes_sent : Sound m → Bytes (sent rt sfn a m)
  unfolding sent
  bytes_sent s = bytes_take (min a 65534) (full rt sfn m) (bytes_full s rt sfn)

pub sent_none : (rt sfn : ℕ) (m : Drive) → sent rt sfn 0 m ≡ []
unfolding sent
sent_none rt sfn m = refl

-- the paper's two lengths
pub sent_65532 : (rt sfn : ℕ) (m : Drive) → length (full rt sfn m) ≡ 65532 → sent rt sfn 65535 m ≡ full rt sfn m
sent_65532 rt sfn m e = sent_whole_here rt sfn 65535 m (omega arith) (omega arith)

pub sent_65536 : (rt sfn : ℕ) (m : Drive) → length (full rt sfn m) ≡ 65536 → length (sent rt sfn 65535 m) ≡ 65534
sent_65536 rt sfn m e = sent_limit rt sfn 65535 m (omega arith) (omega arith)

-- ---- the header is the same whatever the allocation length

module _ (rt sfn a : ℕ) (m : Drive) where
  -- the header
  pub sent_header : 8 ≤ a → take 8 (sent rt sfn a m) ≡ header (data_length (selected rt sfn m)) (current_profile m.profiles)
  unfolding sent full
  sent_header h =
      let ds : List Desc = selected rt sfn m in
      take-take 8 (min a 65534) (full rt sfn m) (omega arith)
      ∙ take_at (header (data_length ds) (current_profile m.profiles)) (flat bytes ds) 8 (length_header (data_length ds) (current_profile m.profiles))

  -- Data Length
  pub sent_data_length : 4 ≤ a → take 4 (sent rt sfn a m) ≡ spell 4 (data_length (selected rt sfn m))
  unfolding sent
  sent_data_length h =
      take-take 4 (min a 65534) (full rt sfn m) (omega arith)
      ∙ ap (take 4) (full_length rt sfn m)
      ∙ take_at (spell 4 (data_length (selected rt sfn m))) (behind_length rt sfn m) 4 (length_spell 4 (data_length (selected rt sfn m)))

  pub sent_field : Sound m → 4 ≤ a → field 4 (sent rt sfn a m) 0 ≡ data_length (selected rt sfn m)
  unfolding sent
  sent_field s h =
      field_take 4 (min a 65534) (full rt sfn m) 0 (omega arith)
      ∙ ap (λ (l : List ℕ). field 4 l 0) (full_length rt sfn m)
      ∙ field_spell 4 (data_length (selected rt sfn m)) (behind_length rt sfn m)
      ∙ mod-eq_of_lt (data_length_low s rt sfn)

  -- Current Profile
  pub sent_profile : Sound m → 8 ≤ a → field 2 (sent rt sfn a m) 6 ≡ current_profile m.profiles
  unfolding sent
  sent_profile s h =
      field_take 2 (min a 65534) (full rt sfn m) 6 (omega arith)
      ∙ sym (field_drop 2 6 (full rt sfn m) 0)
      ∙ ap (λ (l : List ℕ). field 2 l 0) (full_profile rt sfn m)
      ∙ field_spell 2 (current_profile m.profiles) (flat bytes (selected rt sfn m))
      ∙ mod-eq_of_lt (profile_low s)
