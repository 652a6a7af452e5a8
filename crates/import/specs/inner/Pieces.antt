-- The pieces that the inner functions speak of: a sheet's bytes as they are written. Assumes nothing: these are definitions.
use Rattle.std.specs.Prelude.{List, [], ◌∷◌, ◌++◌, ◌≡◌, ℕ, ◌+◌, ◌*◌, ◌/◌, ◌≤◌, ◌<◌, length}
use Rattle.std.proofs.lemmas.List.Edits.{sets}
use Rattle.base.specs.Lists.{flat}
use Rattle.text.specs.Drive.{Desc}
use Rattle.text.specs.Response.{header_length}
use Rattle.text.specs.Reading.{length_at, desc_at}
use Rattle.reading.specs.Places.{next_at}
use Rattle.reading.specs.inner.Between.{from}
use Rattle.layout.specs.Layout.{counts_bytes, profiles_behind}
use Rattle.layout.specs.declared.Layout.TheVariants.{Rows}
use Rattle.layout.specs.Contents.{row_bytes, contents}
use Rattle.sheet.specs.Meaning.{entry, entries_of}
use Rattle.capture.specs.inner.Behind.{behind}

-- the row of a descriptor whose body stands at `at`, and the rows of descriptors, the first body there
abbrev pub row_at : (at : ℕ) → Desc → List ℕ
row_at at d = row_bytes (entry at d)

abbrev pub rows : (at : ℕ) → List Desc → List ℕ
rows at ds = contents Rows (entries_of at ds)

-- the bodies of descriptors, one behind the other
abbrev pub bodies : List Desc → List ℕ
bodies ds = flat (λ (d : Desc). d.body) ds

-- descriptors stand in s whole, as many as ds, one behind the other from a place on
abbrev pub Standing : (s : List ℕ) (at : ℕ) → List Desc → Type 0
Standing s at [] = Unit {0}
Standing s at (d ∷ ds) = (at + 4 + length_at s at ≤ length s) × Standing s (at + 4 + length_at s at) ds

-- the descriptors from `first` on are whole, and the buffer d has room for their entries at `entries`, and for their bodies at `body`, which is behind
-- all entries
pub record HasSpace (s : List ℕ) (entries body first : ℕ) (d : List ℕ) : Type 0 where
  pub whole : Standing s first (from s first)
  pub apart : entries + 8 * length (from s first) ≤ body
  pub room : body + length (bodies (from s first)) ≤ length d
  pub low : body + length (bodies (from s first)) < 4294967296

-- both were written: r is the index behind the bodies, e the buffer afterwards
pub record Filled (s : List ℕ) (entries body first : ℕ) (d : List ℕ) (r : ℕ) (e : List ℕ) : Type 0 where
  pub next : r ≡ body + length (bodies (from s first))
  pub holds : e ≡ sets (sets d entries (rows body (from s first))) body (bodies (from s first))

-- the sheet of features ds behind a profile list b
unfoldable pub sheet_bytes : (b : List ℕ) (ds : List Desc) → List ℕ
sheet_bytes b ds =
    counts_bytes (length ds) (length b / 4)
    ++ rows (profiles_behind (length ds) + length b) ds
    ++ b
    ++ bodies ds

-- that of the descriptors of s, of which n stand whole behind the first, has room in the buffer d
pub record Whole (s : List ℕ) (n : ℕ) (d : List ℕ) : Type 0 where
  pub some : header_length < length s
  pub whole : Standing s (next_at s header_length) (behind s)
  pub count : n ≡ length (behind s)
  pub room : length (sheet_bytes (desc_at s header_length).body (behind s)) ≤ length d
  pub low : length (sheet_bytes (desc_at s header_length).body (behind s)) < 4294967296
