-- The contents written, in either layout, and a sheet laid out anew. Assumes nothing: these are definitions.
use Rattle.std.specs.Prelude.{List, [], ◌∷◌, ◌++◌, ℕ, ◌<◌, take, drop}
use Rattle.base.specs.Lists.{each, flat}
use Rattle.fields.specs.Field.{spell}
use Rattle.layout.specs.declared.Layout.{Layout}
use Rattle.layout.specs.declared.Layout.TheVariants.{Rows, Columns}
use Rattle.layout.specs.declared.Entry.{Entry}
use Rattle.layout.specs.Layout.{Sheet, stored, feature_count, profiles_at, number, flags, body_length, offset}

-- the four fields of entry i
unfoldable pub entry_of : Sheet → ℕ → Entry
entry_of s i = record { number = record { 0 = number s i }; flags = record { 0 = flags s i }; length = body_length s i; offset = offset s i }

-- the bytes of each
abbrev pub number_bytes : Entry → List ℕ
number_bytes e = spell 2 e.number.0

abbrev pub flags_byte : Entry → List ℕ
flags_byte e = e.flags.0 ∷ []

abbrev pub length_byte : Entry → List ℕ
length_byte e = e.length ∷ []

abbrev pub offset_bytes : Entry → List ℕ
offset_bytes e = spell 4 e.offset

-- the head, which is how a descriptor starts: number, flags and body length; and all four
abbrev pub head_bytes : Entry → List ℕ
head_bytes e = number_bytes e ++ flags_byte e ++ length_byte e

unfoldable pub row_bytes : Entry → List ℕ
row_bytes e = number_bytes e ++ flags_byte e ++ length_byte e ++ offset_bytes e

-- the contents: row behind row, or column behind column
unfoldable pub contents : Layout → List Entry → List ℕ
contents Rows es = flat row_bytes es
contents Columns es = flat number_bytes es ++ flat flags_byte es ++ flat length_byte es ++ flat offset_bytes es

-- the entries of a sheet
abbrev pub entries : Sheet → List Entry
entries s = each (entry_of s) 0 (feature_count s)

-- a sheet laid out so: the counts, the entries, and what stands behind them
unfoldable pub laid : Layout → Sheet → Sheet
laid l s = stored l (take 4 s.bytes ++ contents l (entries s) ++ drop (profiles_at s) s.bytes)

-- an entry whose fields have the widths that they are written in
pub record Fits (e : Entry) : Type 0 where
  pub number_fits : e.number.0 < 65536
  pub flags_fits : e.flags.0 < 256
  pub length_fits : e.length < 256
  pub offset_fits : e.offset < 4294967296
