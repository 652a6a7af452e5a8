-- Where a drive sheet's fields stand, in either layout: counts, contents, profiles, bodies. Assumes nothing: these are definitions.
use Rattle.std.specs.Prelude.{List, ◌++◌, ℕ, ◌+◌, ◌*◌, length, get_or, take, drop}
use Rattle.fields.specs.Field.{field, spell}
use Rattle.layout.specs.declared.Layout.{Layout}
use Rattle.layout.specs.declared.Layout.TheVariants.{Rows, Columns}

-- a drive sheet: bytes, and how their contents stand
pub record Sheet : Type 0 where
  pub layout : Layout
  pub bytes : List ℕ

abbrev pub stored : Layout → List ℕ → Sheet
stored l b = record { layout = l; bytes = b }

abbrev pub sheet_size : Sheet → ℕ
sheet_size s = length s.bytes

-- ---- what stands alike in both layouts

-- the head: feature count (2), profile count (2)
unfoldable pub features : List ℕ → ℕ
features b = field 2 b 0

unfoldable pub profiles : List ℕ → ℕ
profiles b = field 2 b 2

abbrev pub feature_count : Sheet → ℕ
feature_count s = features s.bytes

abbrev pub profile_count : Sheet → ℕ
profile_count s = profiles s.bytes

-- its bytes
abbrev pub counts_bytes : (features profiles : ℕ) → List ℕ
counts_bytes features profiles = spell 2 features ++ spell 2 profiles

-- where the profiles start behind the entries of so many features
abbrev pub profiles_behind : (features : ℕ) → ℕ
profiles_behind features = 4 + 8 * features

-- where the profiles and the bodies start
abbrev pub profiles_at : Sheet → ℕ
profiles_at s = 4 + 8 * feature_count s

abbrev pub bodies_at : Sheet → ℕ
bodies_at s = 4 + 8 * feature_count s + 4 * profile_count s

-- all profiles, as they stand: four bytes each
unfoldable pub profiles_in : List ℕ → List ℕ
profiles_in b = take (4 * profiles b) (drop (profiles_behind (features b)) b)

abbrev pub profiles_part : Sheet → List ℕ
profiles_part s = profiles_in s.bytes

-- ---- the contents

-- Where the fields of entry i of n stand: feature number (2), flags (1), body length (1), body offset (4). In rows entry follows entry; in columns all
-- numbers stand first, then all flags, all body lengths, all offsets.
unfoldable pub number_place : Layout → (n i : ℕ) → ℕ
number_place Rows n i = 4 + 8 * i
number_place Columns n i = 4 + 2 * i

unfoldable pub flags_place : Layout → (n i : ℕ) → ℕ
flags_place Rows n i = 4 + 8 * i + 2
flags_place Columns n i = 4 + 2 * n + i

unfoldable pub length_place : Layout → (n i : ℕ) → ℕ
length_place Rows n i = 4 + 8 * i + 3
length_place Columns n i = 4 + 3 * n + i

unfoldable pub offset_place : Layout → (n i : ℕ) → ℕ
offset_place Rows n i = 4 + 8 * i + 4
offset_place Columns n i = 4 + 4 * n + 4 * i

-- the fields of entry i
unfoldable pub number : Sheet → ℕ → ℕ
number s i = field 2 s.bytes (number_place s.layout (feature_count s) i)

unfoldable pub flags : Sheet → ℕ → ℕ
flags s i = get_or s.bytes (flags_place s.layout (feature_count s) i) 0

unfoldable pub body_length : Sheet → ℕ → ℕ
body_length s i = get_or s.bytes (length_place s.layout (feature_count s) i) 0

unfoldable pub offset : Sheet → ℕ → ℕ
offset s i = field 4 s.bytes (offset_place s.layout (feature_count s) i)
