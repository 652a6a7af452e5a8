-- The number that the check of a drive sheet gives, in the paper's order. Assumes nothing: these are definitions.
use Rattle.std.specs.Prelude.{not, ℕ, zero, suc, ◌+◌, ◌%◌, ltb, leb, eqb}
use Rattle.refusal.specs.declared.Refusal.{Refusal}
use Rattle.refusal.specs.First.{refuse, accept, ◌if◌else◌, ◌or_else◌, first_of, placed}
use Rattle.profiles.specs.Profiles.{records_fault}
use Rattle.text.specs.Flags as text
use Rattle.layout.specs.Layout.{Sheet, sheet_size, feature_count, profile_count, bodies_at, number, flags, body_length, offset, profiles_part}

-- the feature number before entry i, and the end of the body before its body
unfoldable pub number_before : Sheet → ℕ → ℕ
number_before s zero = 0
number_before s (suc i) = number s i

unfoldable pub end_before_entry : Sheet → ℕ → ℕ
end_before_entry s zero = bodies_at s
end_before_entry s (suc i) = offset s i + body_length s i

-- 5: reserved flag bits. 44: Persistent without Current. The Version may be any
unfoldable pub flags_rule : ℕ → Refusal
flags_rule f = text.flags_giving (refuse 5) (refuse 44) f

-- 4: feature number 0, or not above the one before. 5, 44: flags. 6: body length no multiple of 4. 7: offset not the end of the body before
unfoldable pub entry_rule : (number before flags len offset end : ℕ) → Refusal
entry_rule number before flags len offset end =
    refuse 4 if eqb number 0 else
    refuse 4 if leb number before else
    flags_rule flags or_else
    refuse 6 if not (eqb (len % 4) 0) else
    refuse 7 if not (eqb offset end) else
    accept

-- entry i's refusal, at its place in the contents, counted from 1
unfoldable pub entry_fault : Sheet → ℕ → Refusal
entry_fault s i = placed (entry_rule (number s i) (number_before s i) (flags s i) (body_length s i) (offset s i) (end_before_entry s i)) (suc i)

-- all n entries in order, and 8: the sheet does not end where the last body ends
abbrev pub entries_verdict : (s : Sheet) (n : ℕ) → Refusal
entries_verdict s n =
    first_of (entry_fault s) 0 n or_else
    refuse 8 if not (eqb (sheet_size s) (end_before_entry s n)) else
    accept

-- 2: p over 63. Then 3 of the profiles, and the entries
unfoldable pub counted : (s : Sheet) (n p : ℕ) → Refusal
counted s n p =
    refuse 2 if ltb 63 p else
    records_fault (profiles_part s) or_else
    entries_verdict s n

-- 1: under 4 bytes, or under 4 + 8n + 4p
unfoldable pub verdict : Sheet → Refusal
verdict s =
    refuse 1 if ltb (sheet_size s) 4 else
    refuse 1 if ltb (sheet_size s) (bodies_at s) else
    counted s (feature_count s) (profile_count s)

-- the sheet is accepted
abbrev pub Accepted : Sheet → Type 0
Accepted s = mathlib.Core.Path.◌≡◌ (verdict s).number 0
