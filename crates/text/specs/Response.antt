-- The response to GET CONFIGURATION. Assumes nothing: these are definitions.
use Rattle.std.specs.Prelude.{Bool, true, false, ◌&&◌, List, [], ◌∷◌, ◌++◌, ℕ, zero, suc, ◌+◌, min, leb, eqb, length, take}
use Rattle.base.specs.Lists.{flat, keep}
use Rattle.fields.specs.Field.{spell}
use Rattle.text.specs.declared.Header.{Header}
use Rattle.text.specs.Flags.{current}
use Rattle.text.specs.Drive.{Desc, Listed, Drive, profile_bytes}

-- a descriptor on the wire: feature number (2), flags, Additional Length, that many bytes
unfoldable pub bytes : Desc → List ℕ
bytes d = spell 2 d.number ++ (d.flags ∷ length d.body ∷ []) ++ d.body

-- feature 0, the profile list, made from the profiles: Persistent and Current
unfoldable pub feature0 : List Listed → Desc
feature0 ps = record { number = 0; flags = 3; body = flat profile_bytes ps }

-- all features, feature 0 first
unfoldable pub all : Drive → List Desc
all m = feature0 m.profiles ∷ m.features

-- RT 0: the features numbered SFN or higher. RT 1: of these, the ones with Current set. RT 2: the one numbered SFN
unfoldable pub wants : (rt sfn : ℕ) → Desc → Bool
wants zero sfn d = leb sfn d.number
wants (suc zero) sfn d = leb sfn d.number && eqb (current d.flags) 1
wants (suc (suc rt)) sfn d = eqb d.number sfn

-- the descriptors that a request selects, ascending
unfoldable pub selected : (rt sfn : ℕ) → Drive → List Desc
selected rt sfn m = keep (wants rt sfn) (all m)

-- the first listed profile that is current, 0 if none
unfoldable pub current_profile : List Listed → ℕ
current_profile [] = 0
current_profile (p ∷ ps) = elim p.on [ true ↦ p.number | false ↦ current_profile ps ]

-- the header's length
abbrev pub header_length : ℕ
header_length = 8

-- the header: Data Length (4), two zero bytes, Current Profile (2)
unfoldable pub header : (data_length profile : ℕ) → List ℕ
header data_length profile = spell 4 data_length ++ (0 ∷ 0 ∷ []) ++ spell 2 profile

-- the header type's constructor
unfoldable pub header_of : (data_length profile : ℕ) → Header
header_of data_length profile = record { data_length = data_length; profile = record { 0 = profile } }

-- Data Length: the length of the full response less 4, whatever the allocation length
unfoldable pub data_length : List Desc → ℕ
data_length ds = 4 + length (flat bytes ds)

-- the full response to a request
unfoldable pub full : (rt sfn : ℕ) → Drive → List ℕ
full rt sfn m = header (data_length (selected rt sfn m)) (current_profile m.profiles) ++ flat bytes (selected rt sfn m)

-- the most bytes that are sent, whatever the allocation length
abbrev pub return_limit : ℕ
return_limit = 65534

-- C: the most bytes that a response to allocation length a has
abbrev pub most : ℕ → ℕ
most a = min a return_limit

-- what is sent: the first bytes of the full response, as many as the allocation length a and the return limit let through
unfoldable pub sent : (rt sfn a : ℕ) → Drive → List ℕ
sent rt sfn a m = take (most a) (full rt sfn m)
