-- A medium goes in: which features and profiles of a drive are current then, and the sheet as it leaves it. Assumes nothing: these are definitions.
use Rattle.std.specs.Prelude.{Bool, true, not, ◌&&◌, ◌||◌, List, [], ◌∷◌, map, ℕ, ◌+◌, ◌*◌, ◌/◌, ltb, eqb}
use Rattle.base.specs.Pick.{some}
use Rattle.refusal.specs.declared.Refusal.{Refusal}
use Rattle.refusal.specs.First.{refuse, accept, ◌if◌else◌, ◌or_else◌}
use Rattle.lent.specs.Maker.{Outcome, makes}
use Rattle.text.specs.Flags.{persistent}
use Rattle.text.specs.Drive.{Desc, Listed, Drive, bit}
use Rattle.layout.specs.Layout.{Sheet}
use Rattle.sheet.specs.Check.{verdict}
use Rattle.sheet.specs.Meaning.{meaning, sheet_of}

-- ---- lists of numbers

-- the number n stands in ns
unfoldable pub is_in : (ns : List ℕ) (n : ℕ) → Bool
is_in ns n = some (λ (m : ℕ). eqb m n) ns

-- the numbers ascend, and none is repeated
unfoldable pub ascends : List ℕ → Bool
ascends [] = true
ascends (a ∷ []) = true
ascends (a ∷ b ∷ ns) = ltb a b && ascends (b ∷ ns)

-- one of ns does not stand in ms
unfoldable pub lacks : (ms ns : List ℕ) → Bool
lacks ms ns = some (λ (n : ℕ). not (is_in ms n)) ns

-- ---- the drive, with a medium that makes the features fs and the profiles ps current

-- a feature's flags, where it is listed or not: a Persistent one stays current, each other one is current exactly if it is listed; all other bits stay
unfoldable pub flags_with : (listed : Bool) (flags : ℕ) → ℕ
flags_with listed f = f / 2 * 2 + bit (eqb (persistent f) 1 || listed)

unfoldable pub feature_with : (fs : List ℕ) → Desc → Desc
feature_with fs d = record { number = d.number; flags = flags_with (is_in fs d.number) d.flags; body = d.body }

-- a profile is current exactly if it is listed
unfoldable pub profile_with : (ps : List ℕ) → Listed → Listed
profile_with ps p = record { number = p.number; on = is_in ps p.number }

unfoldable pub drive_with : (fs ps : List ℕ) → Drive → Drive
drive_with fs ps m = record { profiles = map (profile_with ps) m.profiles; features = map (feature_with fs) m.features }

-- ---- the sheet

-- the sheet as the medium leaves it, in the layout that it has
unfoldable pub loaded : (fs ps : List ℕ) → Sheet → Sheet
loaded fs ps s = sheet_of s.layout (drive_with fs ps (meaning s))

-- the numbers that a drive has; feature 0 is not among them
abbrev pub feature_numbers : Drive → List ℕ
feature_numbers m = map (λ (d : Desc). d.number) m.features

abbrev pub profile_numbers : Drive → List ℕ
profile_numbers m = map (λ (p : Listed). p.number) m.profiles

-- 51: either list out of order or with a repeat. 52: a feature or a profile that the drive lacks
unfoldable pub lists_fault : (fs ps : List ℕ) → Drive → Refusal
lists_fault fs ps m =
    refuse 51 if not (ascends fs) || not (ascends ps) else
    refuse 52 if lacks (feature_numbers m) fs || lacks (profile_numbers m) ps else
    accept

-- the sheet's refusal, then these
unfoldable pub load_fault : (fs ps : List ℕ) → Sheet → Refusal
load_fault fs ps s = verdict s or_else lists_fault fs ps (meaning s)

-- the answer, and the buffer d afterwards: the refusal, then 53 where d is too short; else the sheet as the medium leaves it
unfoldable pub loading : (fs ps : List ℕ) (s : Sheet) (d : List ℕ) → Outcome
loading fs ps s d = makes (load_fault fs ps s) 53 (loaded fs ps s).bytes d
