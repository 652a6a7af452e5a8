-- A response to RT 0 from 0 that has to be complete, and how many of its whole descriptors have odd flags. Assumes nothing: these are definitions.
use Rattle.std.specs.Prelude.{List, [], ◌∷◌, ℕ, ◌+◌}
use Rattle.text.specs.Drive.{Desc, bit}
use Rattle.text.specs.Flags.{odd}
use Rattle.reading.specs.declared.Judged.{Judged}
use Rattle.reading.specs.Places.{descs}
use Rattle.reading.specs.Completed.{completed}

-- 1 for odd flags, else 0
unfoldable pub odd_flags : ℕ → ℕ
odd_flags f = bit (odd f)

-- how many of ds have such flags
unfoldable pub odd_in : List Desc → ℕ
odd_in [] = 0
odd_in (d ∷ ds) = odd_flags d.flags + odd_in ds

-- the reading, and how many they are: none where it is refused by another number than 29
unfoldable pub judged : List ℕ → Judged
judged s = record { reading = completed s; odd = odd_in (descs s) }
