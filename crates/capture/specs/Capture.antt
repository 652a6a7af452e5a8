-- A captured response to RT 0 from 0, and the drive that it describes. Assumes nothing: these are definitions.
use Rattle.std.specs.Prelude.{not, List, [], ◌∷◌, ℕ, ◌+◌, eqb, length}
use Rattle.fields.specs.Field.{field}
use Rattle.refusal.specs.declared.Refusal.{Refusal}
use Rattle.refusal.specs.First.{refuse, accept, ◌if◌else◌, ◌or_else◌, unless, placed}
use Rattle.text.specs.Drive.{Desc, Drive}
use Rattle.text.specs.Response.{current_profile}
use Rattle.text.specs.Reading.{stated_profile}
use Rattle.profiles.specs.Profiles.{profiles_of, records_fault}
use Rattle.sheet.specs.Check.{flags_rule}
use Rattle.reading.specs.Places.{descs}
use Rattle.reading.specs.Completed.{complete_fault}
use Rattle.capture.specs.declared.Capture.{Capture}

-- the drive that complete descriptors describe, feature 0 first
unfoldable pub captured : List Desc → Drive
captured [] = record { profiles = []; features = [] }
captured (z ∷ ds) = record { profiles = profiles_of z.body; features = ds }

-- 41: feature 0 absent, or its flags not 03h; header bytes 4-5 not 0; a Current Profile other than the first listed with CurrentP set
unfoldable pub own_rule : (r : List ℕ) → List Desc → Refusal
own_rule r [] = refuse 41
own_rule r (z ∷ ds) =
    refuse 41 if not (eqb z.number 0) else
    refuse 41 if not (eqb z.flags 3) else
    refuse 41 if not (eqb (field 2 r 4) 0) else
    refuse 41 if not (eqb (stated_profile r) (current_profile (profiles_of z.body))) else
    accept

-- 5 and 44, by the sheet's rule, at each descriptor in turn, where the first has this place
unfoldable pub flags_faults : (place : ℕ) → List Desc → Refusal
flags_faults place [] = accept
flags_faults place (d ∷ ds) = placed (flags_rule d.flags) place or_else flags_faults (place + 1) ds

-- the sheet's own numbers in the sheet's order: all profiles, then all entries, of which feature 0 is none
unfoldable pub sheet_rule : List Desc → Refusal
sheet_rule [] = accept
sheet_rule (z ∷ ds) = records_fault z.body or_else flags_faults 1 ds

-- what is refused of a response: the reading's numbers, 29 if it is cut, 41, then the sheet's
unfoldable pub capture_fault : List ℕ → Refusal
capture_fault r =
    complete_fault r or_else
    own_rule r (descs r) or_else
    sheet_rule (descs r)

-- the answer: the refusal, or how many features the drive has behind feature 0
unfoldable pub capture_of : List ℕ → Capture
capture_of r =
    unless (capture_fault r)
    (λ e. record { refusal = e; features = 0 })
    record { refusal = accept; features = length (captured (descs r)).features }
