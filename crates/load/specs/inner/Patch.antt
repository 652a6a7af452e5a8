-- Bytes set at places, and so the bytes of a sheet that a medium changes. Assumes nothing: these are definitions.
use Rattle.std.specs.Prelude.{List, ℕ, zero, suc, ◌+◌, ◌*◌, ◌/◌, length, set}
use Rattle.text.specs.Drive.{bit}
use Rattle.profiles.specs.Profiles.{profile_number}
use Rattle.layout.specs.Layout.{Sheet, feature_count, profiles_at, profiles_part, flags_place}
use Rattle.load.specs.Load.{is_in}
use Rattle.load.specs.inner.Beside.{flags_met}

-- at each of the first k places the value that is its own, one after the other
unfoldable pub patched : (place value : ℕ → ℕ) (k : ℕ) (b : List ℕ) → List ℕ
patched place value zero b = b
patched place value (suc k) b = set (patched place value k b) (place k) (value k)

-- the flags of each entry
abbrev pub flags_patched : (fs : List ℕ) → Sheet → List ℕ
flags_patched fs s = patched (flags_place s.layout (feature_count s)) (flags_met s fs) (feature_count s) s.bytes

-- where the third byte of a profile stands, and what it becomes
abbrev pub current_place : Sheet → ℕ → ℕ
current_place s i = profiles_at s + 4 * i + 2

abbrev pub current_byte : (ps : List ℕ) → Sheet → ℕ → ℕ
current_byte ps s i = bit (is_in ps (profile_number (profiles_part s) i))

-- the flags of each entry, and the third byte of each profile
unfoldable pub sheet_patched : (fs ps : List ℕ) → Sheet → List ℕ
sheet_patched fs ps s = patched (current_place s) (current_byte ps s) (length (profiles_part s) / 4) (flags_patched fs s)
