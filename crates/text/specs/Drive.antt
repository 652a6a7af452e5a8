-- What a drive has: its profiles and its features. Every promise speaks of these. Assumes nothing: these are definitions.
use Rattle.std.specs.Prelude.{◌≡◌, Bool, true, false, List, [], ◌∷◌, ◌++◌, ℕ, ◌+◌, ◌%◌, ◌≤◌, ◌<◌, length}
use Rattle.base.specs.Lists.{All, Bytes}
use Rattle.fields.specs.Field.{spell}

-- a feature descriptor: feature number, flags, and the bytes behind Additional Length
pub record Desc : Type 0 where
  pub number : ℕ
  pub flags : ℕ
  pub body : List ℕ

-- a profile, and whether it is current
pub record Listed : Type 0 where
  pub number : ℕ
  pub on : Bool

-- the profiles, the most desirable first, and the features other than feature 0, ascending
pub record Drive : Type 0 where
  pub profiles : List Listed
  pub features : List Desc

abbrev pub bit : Bool → ℕ
bit true = 1
bit false = 0

-- a profile on the wire and in a sheet: number (2), CurrentP, a zero byte
unfoldable pub profile_bytes : Listed → List ℕ
profile_bytes p = spell 2 p.number ++ (bit p.on ∷ 0 ∷ [])

-- a descriptor that four bytes and a body can say: Additional Length is a multiple of 4, so at most 252
pub record Good (d : Desc) : Type 0 where
  pub number_low : d.number < 65536
  pub flags_low : d.flags < 256
  pub four : length d.body % 4 ≡ 0
  pub short : length d.body ≤ 252
  pub bytes : Bytes d.body

-- the numbers ascend, and the first is lo or more
abbrev pub Asc : ℕ → List Desc → Type 0
Asc lo [] = Unit {0}
Asc lo (d ∷ ds) = (lo ≤ d.number) × Asc (1 + d.number) ds

-- a drive that the text can speak of
pub record Sound (m : Drive) : Type 0 where
  pub few : length m.profiles ≤ 63
  pub profiles_low : All (λ (p : Listed). p.number < 65536) m.profiles
  pub ascending : Asc 1 m.features
  pub good : All Good m.features
