-- The response by index of the sheet's entries: what the box's inner functions find, add up and write. Assumes nothing: these are definitions.
use Rattle.std.specs.Prelude.{Bool, true, false, not, ◌&&◌, List, [], ◌∷◌, ◌++◌, ℕ, zero, suc, ◌+◌, ◌-◌, ◌*◌, ◌%◌, ◌^◌, min, ltb, eqb, take, drop}
use Rattle.fields.specs.Field.{spell}
use Rattle.text.specs.Flags as text
use Rattle.text.specs.Response.{header, current_profile, header_length, most}
use Rattle.profiles.specs.Profiles.{profiles_of}
use Rattle.layout.specs.Layout.{Sheet, profiles, feature_count, number, flags, body_length, offset, profiles_in, profiles_part}
use Rattle.layout.specs.Contents.{entry_of, head_bytes}
use Rattle.sheet.specs.Check.{end_before_entry}
use Rattle.sheet.specs.inner.Search.{first_from}
use Rattle.responder.specs.declared.Plan.{Plan}

-- the end of the wanted entries that start at r: all n, or with RT 2 only entry r if it has the number asked for
unfoldable pub wanted_end : (rt : ℕ) (s : Sheet) (n sfn r : ℕ) → ℕ
wanted_end zero s n sfn r = n
wanted_end (suc zero) s n sfn r = n
wanted_end (suc (suc rt)) s n sfn r = elim (ltb r n && eqb (number s r) sfn) [ true ↦ r + 1 | false ↦ r ]

-- RT 1 passes over what is not current
unfoldable pub skips : (rt f : ℕ) → Bool
skips rt f = eqb rt 1 && not (eqb (text.current f) 1)

-- a descriptor's bytes from its fields, whatever length it names; those of entry i's
abbrev pub desc_of : (number flags len : ℕ) (body : List ℕ) → List ℕ
desc_of number flags len body = spell 2 number ++ (flags ∷ []) ++ (len ∷ []) ++ body

unfoldable pub desc_bytes : Sheet → ℕ → List ℕ
desc_bytes s i = desc_of (number s i) (flags s i) (body_length s i) (take (body_length s i) (drop (offset s i) s.bytes))

unfoldable pub piece : (rt : ℕ) (s : Sheet) (i : ℕ) → List ℕ
piece rt s i = elim (skips rt (flags s i)) [ true ↦ [] | false ↦ desc_bytes s i ]

-- the same with a body that stands there and is so long, whatever the entry says of it
unfoldable pub whole_bytes : (s : Sheet) (i body len : ℕ) → List ℕ
whole_bytes s i body len = head_bytes (entry_of s i) ++ take len (drop body s.bytes)

-- what is written of it, where the walk stops before it and where it goes on
unfoldable pub going : (stops : Bool) → List ℕ → List ℕ
going true bs = []
going false bs = bs

-- those of k entries from an index on
unfoldable pub pieces : (rt : ℕ) (s : Sheet) (from k : ℕ) → List ℕ
pieces rt s from zero = []
pieces rt s from (suc k) = pieces rt s from k ++ piece rt s (from + k)

-- how many bytes they are
unfoldable pub piece_size : (rt : ℕ) (s : Sheet) (i : ℕ) → ℕ
piece_size rt s i = elim (skips rt (flags s i)) [ true ↦ 0 | false ↦ 4 + body_length s i ]

unfoldable pub found_size : (rt f len : ℕ) → ℕ
found_size rt f len = elim (skips rt f) [ true ↦ 0 | false ↦ 4 + len ]

unfoldable pub pieces_size : (rt : ℕ) (s : Sheet) (from k : ℕ) → ℕ
pieces_size rt s from zero = 0
pieces_size rt s from (suc k) = pieces_size rt s from k + piece_size rt s (from + k)

-- the same from the offsets, where none is passed over
unfoldable pub span : (s : Sheet) (from to : ℕ) → ℕ
span s from to = 4 * (to - from) + (end_before_entry s to - end_before_entry s from)

unfoldable pub entries_size : (rt : ℕ) (s : Sheet) (from to : ℕ) → ℕ
entries_size rt s from to = elim (eqb rt 1) [ true ↦ pieces_size rt s from (to - from) | false ↦ span s from to ]

-- feature 0 of a list of so many profiles; and what is sent where SFN is 0
abbrev pub zero_of : (count : ℕ) (list : List ℕ) → List ℕ
zero_of count list = desc_of 0 3 (4 * count % 256) list

unfoldable pub at_zero : (sfn : ℕ) → List ℕ → List ℕ
at_zero sfn bs = elim (eqb sfn 0) [ true ↦ bs | false ↦ [] ]

-- that of a sheet, and how many bytes it is
unfoldable pub zero_bytes : List ℕ → List ℕ
zero_bytes b = zero_of (profiles b) (profiles_in b)

unfoldable pub zero_part : (b : List ℕ) (sfn : ℕ) → List ℕ
zero_part b sfn = elim (eqb sfn 0) [ true ↦ zero_bytes b | false ↦ [] ]

unfoldable pub zero_size : (b : List ℕ) (sfn : ℕ) → ℕ
zero_size b sfn = elim (eqb sfn 0) [ true ↦ 4 + 4 * profiles b | false ↦ 0 ]

-- which entries a request takes, and how many bytes stand behind the header
unfoldable pub taken_from : (s : Sheet) (sfn : ℕ) → ℕ
taken_from s sfn = first_from s (feature_count s) sfn

unfoldable pub taken_to : (s : Sheet) (rt sfn : ℕ) → ℕ
taken_to s rt sfn = wanted_end rt s (feature_count s) sfn (taken_from s sfn)

unfoldable pub taken_size : (s : Sheet) (rt sfn : ℕ) → ℕ
taken_size s rt sfn = zero_size s.bytes sfn + entries_size rt s (taken_from s sfn) (taken_to s rt sfn)

-- the entries that are taken where those wanted start at one, with so many bytes
unfoldable pub plan_of : (s : Sheet) (rt sfn from size : ℕ) → Plan
plan_of s rt sfn from size = record { rt = rt; sfn = record { 0 = sfn }; from = from; to = wanted_end rt s (feature_count s) sfn from; size = size }

-- the whole response that a plan takes; Data Length keeps its four bytes
unfoldable pub full_bytes : (s : Sheet) (p : Plan) → List ℕ
full_bytes s p = header ((p.size + 4) % 2 ^ 32) (current_profile (profiles_of (profiles_part s))) ++ zero_part s.bytes p.sfn.0 ++ pieces p.rt s p.from (p.to - p.from)

-- how many bytes of it are due
unfoldable pub limit : (a size : ℕ) → ℕ
limit a size = min (most a) (header_length + size)
