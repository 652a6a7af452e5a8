-- The walk behind a reading, in numbers. Assumes nothing: these are definitions.
use Rattle.std.specs.Prelude.{List, [], ◌∷◌, ℕ, ◌+◌, length}
use Rattle.base.specs.Lists.{flat}
use Rattle.refusal.specs.declared.Refusal.{Refusal}
use Rattle.refusal.specs.First.{unless}
use Rattle.text.specs.Drive.{Desc}
use Rattle.text.specs.Reading.{Walked, number_at, length_at, head_fault, nothing_read}
use Rattle.text.specs.Response.{bytes, return_limit}
use Rattle.reading.specs.declared.Scanned.{Scanned}
use Rattle.reading.specs.declared.WalkJudged.{WalkJudged}
use Rattle.reading.specs.declared.ScanJudged.{ScanJudged}
use Rattle.reading.specs.Places.{descs}
use Rattle.reading.specs.Scan.{scanned}
use Rattle.reading.specs.Judged.{odd_in}
use Rattle.reading.specs.declared.Head.{Head}
use Rattle.reading.specs.declared.Head.TheVariants as head
use Rattle.reading.specs.declared.Walk.{Walk}
use Rattle.reading.specs.declared.Walk.TheVariants as walked

-- a refusal, all else 0
unfoldable pub refusal : Refusal → Scanned
refusal r = record { reading = nothing_read r; last = record { 0 = 0 } }

-- the four header bytes at a place: what they are refused for, or number and Additional Length
unfoldable pub head_at : (rt sfn end : ℕ) (s : List ℕ) (lo at : ℕ) → Head
head_at rt sfn end s lo at = unless (head_fault rt sfn end s lo at) head.Refused (head.Stands (record { 0 = number_at s at }) (length_at s at))

-- the number of the last of ds behind a descriptor numbered n
unfoldable pub last_from : ℕ → List Desc → ℕ
last_from n [] = n
last_from n (d ∷ ds) = last_from d.number ds

-- the place behind the descriptors that the walk w found, from a place on
abbrev pub behind : (place : ℕ) → Walked → ℕ
behind place w = place + length (flat bytes w.found)

-- the walk w in numbers, behind count descriptors that end at a place, the last of them numbered last: its refusal and where, or the count, the place
-- behind the last and its number
unfoldable pub tally : (count place last : ℕ) → Walked → Walk
tally count place last w =
    unless w.fault (λ r. walked.Refused r (behind place w)) (walked.Whole (count + length w.found) (behind place w) (record { 0 = last_from last w.found }))

-- a whole walk in numbers, and how many of its descriptors have odd flags; the same of a scan
abbrev pub walk_judged : Walked → WalkJudged
walk_judged w = record { walk = tally 0 8 0 w; odd = odd_in w.found }

abbrev pub scan_judged : List ℕ → ScanJudged
scan_judged s = record { scan = scanned return_limit 0 0 s; odd = odd_in (descs s) }
