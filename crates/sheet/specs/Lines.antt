-- The profile or entry that a refusal of a sheet names, and the check as document 01 has it. Assumes nothing: these are definitions.
use Rattle.std.specs.Prelude.{◌≡◌, not, ℕ, ◌%◌, ◌<◌, ltb, leb, eqb}
use Rattle.refusal.specs.declared.Refusal.{Refusal}
use Rattle.refusal.specs.First.{refuse, accept, ◌if◌else◌, ◌or_else◌, first_of}
use Rattle.profiles.specs.Profiles.{records_fault}
use Rattle.profiles.specs.Lines.{Located}
use Rattle.text.specs.Flags as text
use Rattle.layout.specs.Layout.{Sheet, sheet_size, feature_count, profile_count, bodies_at, number, flags, body_length, offset, profiles_part}
use Rattle.sheet.specs.Check.{number_before, end_before_entry, entry_rule}

-- what is refused of entry i
unfoldable pub entry_rule_at : Sheet → ℕ → Refusal
entry_rule_at s i = entry_rule (number s i) (number_before s i) (flags s i) (body_length s i) (offset s i) (end_before_entry s i)

-- a refusal of the sheet s has the place of the first of its profiles, or of its entries, at fault
abbrev pub LocatedIn : Sheet → Refusal → Type 0
LocatedIn s r = Located (profiles_part s) (profile_count s) (entry_rule_at s) (feature_count s) r

-- document 01: 5 for each fault of flags, among them a Version
unfoldable pub old_flags_rule : ℕ → Refusal
old_flags_rule f =
    (refuse 5 if text.newer f else accept) or_else
    text.flags_giving (refuse 5) (refuse 5) f

-- a sheet with no Version above 0, which document 01 asks for
abbrev pub NoVersions : Sheet → Type 0
NoVersions s = (i : ℕ) → i < feature_count s → text.version (flags s i) ≡ 0

-- document 01: at each entry 4, 5, 6, 7
unfoldable pub old_entry : Sheet → ℕ → Refusal
old_entry s i =
    refuse 4 if eqb (number s i) 0 else
    refuse 4 if leb (number s i) (number_before s i) else
    old_flags_rule (flags s i) or_else
    refuse 6 if not (eqb (body_length s i % 4) 0) else
    refuse 7 if not (eqb (offset s i) (end_before_entry s i)) else
    accept

unfoldable pub old_verdict : Sheet → Refusal
old_verdict s =
    refuse 1 if ltb (sheet_size s) 4 else
    refuse 1 if ltb (sheet_size s) (bodies_at s) else
    refuse 2 if ltb 63 (profile_count s) else
    records_fault (profiles_part s) or_else
    first_of (old_entry s) 0 (feature_count s) or_else
    refuse 8 if not (eqb (sheet_size s) (end_before_entry s (feature_count s))) else
    accept
