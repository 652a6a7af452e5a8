-- Where the descriptor of a feature stands, as the walk finds it. Assumes nothing: these are definitions.
use Rattle.std.specs.Prelude.{Bool, List, ℕ, ◌+◌, length}
use Rattle.base.specs.Lists.{flat, keep}
use Rattle.refusal.specs.First.{unless}
use Rattle.text.specs.Drive.{Desc}
use Rattle.text.specs.Reading.{Walked}
use Rattle.text.specs.Response.{bytes, header_length}
use Rattle.reading.specs.declared.Spot.{Spot}
use Rattle.reading.specs.Held.{is_of, is_below, held_in, place_in}

-- how many bytes those of ds have that pass a test
abbrev pub size_of : (Desc → Bool) → List Desc → ℕ
size_of t ds = length (flat bytes (keep t ds))

-- in a response that is refused
abbrev pub no_spot : Spot
no_spot = record { place = header_length; size = 0 }

-- what the walk w makes of a place and a size so far
unfoldable pub spot_from : (f place size : ℕ) → Walked → Spot
spot_from f place size w = unless w.fault (λ r. no_spot) record { place = place + size_of (is_below f) w.found; size = size + size_of (is_of f) w.found }

-- that of feature f in the response s
unfoldable pub spot_in : (f : ℕ) (s : List ℕ) → Spot
spot_in f s = record { place = place_in f s; size = length (held_in f s) }
