-- The descriptors of a response between two places. Assumes nothing: these are definitions.
use Rattle.std.specs.Prelude.{true, false, List, [], ◌∷◌, ℕ, zero, suc, ◌+◌, ◌-◌, ltb, length}
use Rattle.text.specs.Drive.{Desc}
use Rattle.text.specs.Reading.{length_at, desc_at}

-- those that stand in s from a place to an end, at most k of them
unfoldable pub run : (k : ℕ) (s : List ℕ) (at end : ℕ) → List Desc
run zero s at end = []
run (suc k) s at end = elim (ltb at end) [ true ↦ desc_at s at ∷ run k s (at + 4 + length_at s at) end | false ↦ [] ]

-- all of them: each takes 4 bytes or more
abbrev pub between : (s : List ℕ) (at end : ℕ) → List Desc
between s at end = run (end - at) s at end

-- those up to the end of s
abbrev pub from : (s : List ℕ) (at : ℕ) → List Desc
from s at = between s at (length s)
