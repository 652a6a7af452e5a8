-- The descriptors of an image as they stand, found place by place. Assumes nothing: these are definitions.
use Rattle.std.specs.Prelude.{Bool, true, false, not, List, [], ◌∷◌, ◌++◌, ℕ, ◌+◌, ◌-◌, leb, eqb, length, take, drop}
use Rattle.fields.specs.Field.{spell}
use Rattle.text.specs.Drive.{Desc}
use Rattle.text.specs.Flags.{current}
use Rattle.text.specs.Response.{header_length}
use Rattle.text.specs.Reading.{stated_length, number_at, flags_at, length_at}
use Rattle.reading.specs.Places.{next_at}
use Rattle.reading.specs.inner.Between.{from}

-- the first place that passes a test, of those where the descriptors ds stand from a place on; the end of the image where none does
unfoldable pub seek_in : (test : ℕ → Bool) (i : List ℕ) (at : ℕ) → List Desc → ℕ
seek_in test i at [] = length i
seek_in test i at (d ∷ ds) = elim (test at) [ true ↦ at | false ↦ seek_in test i (next_at i at) ds ]

abbrev pub first_at : (test : ℕ → Bool) (i : List ℕ) (at : ℕ) → ℕ
first_at test i at = seek_in test i at (from i at)

-- numbered sfn or higher
abbrev pub from_at : (sfn : ℕ) (i : List ℕ) → ℕ → Bool
from_at sfn i at = leb sfn (number_at i at)

-- current, or not
unfoldable pub agrees : (on : Bool) (flags : ℕ) → Bool
agrees true f = eqb (current f) 1
agrees false f = not (eqb (current f) 1)

abbrev pub current_at : (on : Bool) (i : List ℕ) → ℕ → Bool
current_at on i at = agrees on (flags_at i at)

-- a descriptor as it stands
abbrev pub standing : (i : List ℕ) (at : ℕ) → List ℕ
standing i at = take (4 + length_at i at) (drop at i)

-- the current ones of those that stand from a place on
unfoldable pub currents_in : (i : List ℕ) (at : ℕ) → List Desc → List ℕ
currents_in i at [] = []
currents_in i at (d ∷ ds) = elim (current_at true i at) [ true ↦ standing i at | false ↦ [] ] ++ currents_in i (next_at i at) ds

abbrev pub currents : (i : List ℕ) (at : ℕ) → List ℕ
currents i at = currents_in i at (from i at)

-- what RT 0 and RT 2 want, where the first descriptor numbered sfn or higher is at a place: all from there on; that one
unfoldable pub one_at : (rt sfn : ℕ) (i : List ℕ) (at : ℕ) → List ℕ
one_at rt sfn i at = elim (eqb rt 0) [ true ↦ drop at i | false ↦ elim (eqb (number_at i at) sfn) [ true ↦ standing i at | false ↦ [] ] ]

-- what a request wants
unfoldable pub wanted_at : (rt sfn : ℕ) (i : List ℕ) (at : ℕ) → List ℕ
wanted_at rt sfn i at = elim (eqb rt 1) [ true ↦ currents i at | false ↦ one_at rt sfn i at ]

unfoldable pub wanted : (rt sfn : ℕ) (i : List ℕ) → List ℕ
wanted rt sfn i = wanted_at rt sfn i (first_at (from_at sfn i) i header_length)

-- Data Length less the bytes behind the header that are passed over
unfoldable pub less_passed : (stated bytes size : ℕ) → ℕ
less_passed stated bytes size = stated - (bytes - (header_length + size))

-- the header where size bytes are wanted: that Data Length, and four bytes as they stand
unfoldable pub head_of : (i : List ℕ) (size : ℕ) → List ℕ
head_of i size = spell 4 (less_passed (stated_length i) (length i) size) ++ take 4 (drop 4 i)
