-- The descriptors of a response by their places. Assumes nothing: these are definitions.
use Rattle.std.specs.Prelude.{Bool, true, false, List, ℕ, ◌+◌, ltb, eqb, length}
use Rattle.base.specs.Pick.{some}
use Rattle.text.specs.Drive.{Desc}
use Rattle.text.specs.Response.{return_limit}
use Rattle.text.specs.Reading.{length_at, wholes}

-- the whole descriptors of a response to RT 0 from 0, none where it is refused
abbrev pub descs : List ℕ → List Desc
descs s = wholes return_limit 0 0 s

-- a feature is reported
unfoldable pub reported : ℕ → List Desc → Bool
reported f ds = some (λ d. eqb d.number f) ds

-- the place behind the descriptor at a place; behind the end of s the place itself
unfoldable pub next_at : (s : List ℕ) (at : ℕ) → ℕ
next_at s at = elim (ltb at (length s)) [ true ↦ at + 4 + length_at s at | false ↦ at ]
