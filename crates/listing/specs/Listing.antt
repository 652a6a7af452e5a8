-- The listing of a response to RT 0 from 0, as the codes of its characters. Assumes nothing: these are definitions.
use Rattle.std.specs.Prelude.{Bool, true, false, List, [], ◌∷◌, ◌++◌, ℕ, eqb, length}
use Rattle.base.specs.Lists.{flat}
use Rattle.refusal.specs.First.{unless}
use Rattle.text.specs.Flags.{version, persistent, current}
use Rattle.text.specs.Drive.{Desc}
use Rattle.text.specs.Response.{return_limit}
use Rattle.text.specs.Reading.{stated_profile, stated_end, walked, read_fault}
use Rattle.listing.specs.Digits.{hex4, decimal}

-- a line: words with one space between, and a newline
unfoldable pub words : List (List ℕ) → List ℕ
words [] = 10 ∷ []
words (w ∷ []) = w ++ (10 ∷ [])
words (w ∷ v ∷ ws) = w ++ (32 ∷ []) ++ words (v ∷ ws)

-- the letter where a flag is set, else `-`
unfoldable pub mark : (letter : ℕ) (set : Bool) → ℕ
mark letter true = letter
mark letter false = 45

-- `P` or `-` for Persistent, `C` or `-` for Current
unfoldable pub marks : (flags : ℕ) → List ℕ
marks flags = mark 80 (eqb (persistent flags) 1) ∷ mark 67 (eqb (current flags) 1) ∷ []

-- the first line: current profile, bytes received, count of whole descriptors
unfoldable pub first_line : (profile received count : ℕ) → List ℕ
first_line profile received count = words (hex4 profile ∷ decimal received ∷ decimal count ∷ [])

-- the line of a descriptor: number, flags, Version, Additional Length
unfoldable pub line_of : (number flags len : ℕ) → List ℕ
line_of number flags len = words (hex4 number ∷ marks flags ∷ decimal (version flags) ∷ decimal len ∷ [])

unfoldable pub desc_line : Desc → List ℕ
desc_line d = line_of d.number d.flags (length d.body)

-- the last line, `cut`, where the response is not complete
unfoldable pub ending_line : (complete : Bool) → List ℕ
ending_line true = []
ending_line false = 99 ∷ 117 ∷ 116 ∷ 10 ∷ []

-- `refused` and the number
unfoldable pub refused_line : (number : ℕ) → List ℕ
refused_line number = words ((114 ∷ 101 ∷ 102 ∷ 117 ∷ 115 ∷ 101 ∷ 100 ∷ []) ∷ decimal number ∷ [])

-- an accepted response s, of which the descriptors ds are whole
unfoldable pub accepted : (s : List ℕ) (ds : List Desc) → List ℕ
accepted s ds = first_line (stated_profile s) (length s) (length ds) ++ flat desc_line ds ++ ending_line (eqb (length s) (stated_end s))

-- the listing of any bytes
unfoldable pub listing : List ℕ → List ℕ
listing s = unless (read_fault return_limit 0 0 s) (λ r. refused_line r.number) (accepted s (walked 0 0 s).found)
