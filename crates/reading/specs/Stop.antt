-- Where the reading of a response stops: at the first descriptor that is at fault, at the first that is not whole, or at the end. Assumes nothing: these are definitions.
use Rattle.std.specs.Prelude.{true, false, List, ℕ, ◌+◌, leb, length}
use Rattle.base.specs.Lists.{flat}
use Rattle.refusal.specs.First.{unless}
use Rattle.text.specs.Response.{bytes, header_length}
use Rattle.text.specs.Reading.{stated_length, header_rule, number_at, walked}
use Rattle.reading.specs.declared.Stop.{Stop}

-- the header is refused
abbrev pub nowhere : Stop
nowhere = record { at = 0; feature = record { 0 = 0 } }

-- the feature at a place, 0 where its four header bytes were not received
unfoldable pub feature_at : (s : List ℕ) (at : ℕ) → ℕ
feature_at s at = elim (leb (at + 4) (length s)) [ true ↦ number_at s at | false ↦ 0 ]

unfoldable pub standing : (s : List ℕ) (at : ℕ) → Stop
standing s at = record { at = at; feature = record { 0 = feature_at s at } }

-- the place behind the header and the whole descriptors that the walk found
unfoldable pub stop_place : (rt sfn : ℕ) (s : List ℕ) → ℕ
stop_place rt sfn s = header_length + length (flat bytes (walked rt sfn s).found)

unfoldable pub stopped : (limit rt sfn : ℕ) (s : List ℕ) → Stop
stopped limit rt sfn s = unless (header_rule limit rt (length s) (stated_length s)) (λ r. nowhere) (standing s (stop_place rt sfn s))
