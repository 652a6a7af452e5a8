-- What a drive sheet means, and the sheet that has a meaning. Assumes nothing: these are definitions.
use Rattle.std.specs.Prelude.{◌≡◌, List, [], ◌∷◌, ◌++◌, ℕ, ◌+◌, ◌*◌, length, take, drop}
use Rattle.base.specs.Lists.{each, flat, All}
use Rattle.text.specs.Drive.{Desc, Drive, Sound, profile_bytes}
use Rattle.profiles.specs.Profiles.{profiles_of, Distinct}
use Rattle.layout.specs.declared.Layout.{Layout}
use Rattle.layout.specs.declared.Entry.{Entry}
use Rattle.layout.specs.Layout.{Sheet, stored, feature_count, counts_bytes, profiles_behind, number, flags, body_length, offset, profiles_part}
use Rattle.layout.specs.Contents.{contents}
use Rattle.sheet.specs.Check.{flags_rule}

-- the descriptor of entry i
unfoldable pub desc : Sheet → ℕ → Desc
desc s i = record { number = number s i; flags = flags s i; body = take (body_length s i) (drop (offset s i) s.bytes) }

-- the drive that a sheet describes
unfoldable pub meaning : Sheet → Drive
meaning s = record { profiles = profiles_of (profiles_part s); features = each (desc s) 0 (feature_count s) }

-- the entry of a descriptor whose body stands at `at`
abbrev pub entry : ℕ → Desc → Entry
entry at d = record { number = record { 0 = d.number }; flags = record { 0 = d.flags }; length = length d.body; offset = at }

-- an entry for each descriptor, the first body at `at`
unfoldable pub entries_of : ℕ → List Desc → List Entry
entries_of at [] = []
entries_of at (d ∷ ds) = entry at d ∷ entries_of (at + length d.body) ds

-- the sheet of a drive, so laid out
unfoldable pub sheet_of : Layout → Drive → Sheet
sheet_of l m = stored l (
    counts_bytes (length m.features) (length m.profiles)
    ++ contents l (entries_of (profiles_behind (length m.features) + 4 * length m.profiles) m.features)
    ++ flat profile_bytes m.profiles
    ++ flat (λ (d : Desc). d.body) m.features)

-- a drive that a sheet can describe
pub record Fine (m : Drive) : Type 0 where
  pub sound : Sound m
  pub distinct : Distinct m.profiles
  pub legal : All (λ (d : Desc). (flags_rule d.flags).number ≡ 0) m.features
