-- The profile or entry that a refusal of a capture names, and the check with the one number that document 01 has for flags. Assumes nothing: these are definitions.
use Rattle.std.specs.Prelude.{◌≡◌, List, [], ◌∷◌, ℕ, length, get_or}
use Rattle.base.specs.Lists.{All}
use Rattle.refusal.specs.declared.Refusal.{Refusal}
use Rattle.refusal.specs.First.{accept, ◌or_else◌}
use Rattle.text.specs.Drive.{Desc}
use Rattle.text.specs.Flags as text
use Rattle.profiles.specs.Profiles.{records_fault}
use Rattle.profiles.specs.Lines.{Located}
use Rattle.sheet.specs.Check.{flags_rule}
use Rattle.sheet.specs.Lines.{old_flags_rule}
use Rattle.reading.specs.Places.{descs}
use Rattle.reading.specs.Completed.{complete_fault}
use Rattle.capture.specs.Capture.{captured, own_rule}

-- the body of feature 0, which lists the profiles
unfoldable pub list_body : List Desc → List ℕ
list_body [] = []
list_body (z ∷ ds) = z.body

-- what is refused of feature i of ds
unfoldable pub flags_rule_at : List Desc → ℕ → Refusal
flags_rule_at ds i = flags_rule (get_or ds i (record { number = 0; flags = 0; body = [] })).flags

-- a refusal has the place of the first profile at fault in feature 0's list, or of the first entry in the contents, which are the features behind feature 0
abbrev pub LocatedAmong : List Desc → Refusal → Type 0
LocatedAmong ws r = Located (list_body ws) (length (captured ws).profiles) (flags_rule_at (captured ws).features) (length (captured ws).features) r

-- no Version above 0, as document 01 asks for, in the features behind feature 0
abbrev pub NoVersionsAmong : List Desc → Type 0
NoVersionsAmong ws = All (λ (d : Desc). text.version d.flags ≡ 0) (captured ws).features

-- 5 for each fault of flags, among them a Version
unfoldable pub old_flags : List Desc → Refusal
old_flags [] = accept
old_flags (d ∷ ds) = old_flags_rule d.flags or_else old_flags ds

unfoldable pub old_capture : List ℕ → Refusal
old_capture r =
    complete_fault r or_else
    own_rule r (descs r) or_else
    records_fault (list_body (descs r)) or_else
    old_flags (captured (descs r)).features
