-- A reading with the number of its last descriptor. Assumes nothing: these are definitions.
use Rattle.std.specs.Prelude.{List, ℕ}
use Rattle.text.specs.Reading.{reading, wholes, last_number}
use Rattle.reading.specs.declared.Scanned.{Scanned}

-- the reading, and the number of the last whole descriptor: 0 where there is none or the response is refused
unfoldable pub scanned : (limit rt sfn : ℕ) (s : List ℕ) → Scanned
scanned limit rt sfn s = record { reading = reading limit rt sfn s; last = record { 0 = last_number (wholes limit rt sfn s) } }
