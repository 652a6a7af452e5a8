-- How long descriptors, selections and responses are. Assumes nothing.
use mathlib.Core.Path.{◌≡◌, refl, ap, ◌∙◌}
use mathlib.Core.List.{List, [], ◌∷◌, ◌++◌}
use Prim.Native.Nat.{ℕ, ◌+◌, ◌-◌, ◌*◌, ◌%◌, ◌^◌, ◌≤◌, ◌<◌}
use native.Mathlib.Omega.{arith}
use lib.ListN.{length, length-append}
use Rattle.base.specs.Lists.{flat, All}
use Rattle.fields.specs.Field.{spell}
use Rattle.fields.proofs.Laws.{length_spell}
use Rattle.text.specs.Drive.{Desc, Drive, Good, Asc, Sound}
use Rattle.text.specs.Response.{bytes, selected, current_profile, header, data_length, full}
use Rattle.text.proofs.Profiles.{current_low}
use Rattle.text.proofs.Selection.{asc_down, selected_asc, selected_good}

-- ---- lengths

pub length_bytes : (d : Desc) → length (bytes d) ≡ 4 + length d.body
unfolding bytes
length_bytes d =
    omega (
      arith,
      length-append (spell 2 d.number ++ (d.flags ∷ length d.body ∷ [])) d.body,
      length-append (spell 2 d.number) (d.flags ∷ length d.body ∷ []),
      length_spell 2 d.number,
    )

pub length_header : (n profile : ℕ) → length (header n profile) ≡ 8
unfolding header
length_header n profile =
    omega (
      arith,
      length-append (spell 4 n ++ (0 ∷ 0 ∷ [])) (spell 2 profile),
      length-append (spell 4 n) (0 ∷ 0 ∷ []),
      length_spell 4 n,
      length_spell 2 profile,
    )

pub length_full : (rt sfn : ℕ) (m : Drive) → length (full rt sfn m) ≡ 8 + length (flat bytes (selected rt sfn m))
unfolding full
length_full rt sfn m =
    let ds : List Desc = selected rt sfn m in
    length-append (header (data_length ds) (current_profile m.profiles)) (flat bytes ds)
    ∙ ap (λ (n : ℕ). n + length (flat bytes ds)) (length_header (data_length ds) (current_profile m.profiles))

-- Data Length is the length of the full response less 4
pub data_length_full : (rt sfn : ℕ) (m : Drive) → data_length (selected rt sfn m) ≡ length (full rt sfn m) - 4
unfolding data_length
data_length_full rt sfn m = omega (arith, length_full rt sfn m)

-- ---- bounds

-- as many as there are numbers
pub count_most : (lo : ℕ) (ds : List Desc) → lo ≤ 65536 → All Good ds → Asc lo ds → lo + length ds ≤ 65536
count_most lo [] h g a = omega arith
count_most lo (d ∷ ds) h g a = omega (arith, a.0, count_most (1 + d.number) ds (omega (arith, g.0.number_low)) g.1 a.1)

pub flat_most : (ds : List Desc) → All Good ds → length (flat bytes ds) ≤ 256 * length ds
unfolding flat
flat_most [] g = omega arith
flat_most (d ∷ ds) g = omega (arith, length-append (bytes d) (flat bytes ds), length_bytes d, g.0.short, flat_most ds g.1)

pub flat_four : (ds : List Desc) → All Good ds → length (flat bytes ds) % 4 ≡ 0
unfolding flat
flat_four [] g = refl
flat_four (d ∷ ds) g = omega (arith, length-append (bytes d) (flat bytes ds), length_bytes d, g.0.four, flat_four ds g.1)

module _ {m : Drive} (s : Sound m) (rt sfn : ℕ) where
  pub selected_count : length (selected rt sfn m) ≤ 65536
  selected_count =
      let ds : List Desc = selected rt sfn m in
      let a : Asc 0 ds = asc_down 0 sfn ds (omega arith) (selected_asc s rt sfn) in
      omega (arith, count_most 0 ds (omega arith) (selected_good s rt sfn) a)

  pub selected_most : length (flat bytes (selected rt sfn m)) ≤ 16777216
  selected_most = omega (arith, flat_most (selected rt sfn m) (selected_good s rt sfn), selected_count)

  pub selected_four : length (flat bytes (selected rt sfn m)) % 4 ≡ 0
  selected_four = flat_four (selected rt sfn m) (selected_good s rt sfn)

  pub full_most : length (full rt sfn m) ≤ 16777224
  full_most = omega (arith, length_full rt sfn m, selected_most)

  pub full_four : length (full rt sfn m) % 4 ≡ 0
  full_four = omega (arith, length_full rt sfn m, selected_four)

  -- Data Length takes four bytes
  pub full_low : length (full rt sfn m) < 2 ^ 32
  full_low = omega (arith, full_most)

  pub data_length_low : data_length (selected rt sfn m) < 2 ^ 32
  unfolding data_length
  data_length_low = omega (arith, selected_most)

  pub data_length_four : data_length (selected rt sfn m) % 4 ≡ 0
  unfolding data_length
  data_length_four = omega (arith, selected_four)

-- Current Profile takes two bytes
pub profile_low : {m : Drive} → Sound m → current_profile m.profiles < 65536
profile_low {m} s = current_low m.profiles s.profiles_low
