-- The features behind feature 0, by their place. Assumes nothing: these are definitions.
use Rattle.std.specs.Prelude.{List, ℕ}
use Rattle.text.specs.Drive.{Desc}
use Rattle.text.specs.Response.{header_length}
use Rattle.reading.specs.Places.{next_at}
use Rattle.reading.specs.inner.Between.{from}

-- the descriptors behind the first, which starts behind the header
abbrev pub behind : (s : List ℕ) → List Desc
behind s = from s (next_at s header_length)
