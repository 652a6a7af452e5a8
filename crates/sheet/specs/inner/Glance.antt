-- Whether nothing is refused of the entries of a sheet, column by column. Assumes nothing: these are definitions.
use Rattle.std.specs.Prelude.{Bool, true, false, not, ◌&&◌, ℕ, zero, suc, ◌%◌, ltb, eqb}
use Rattle.layout.specs.declared.Layout.TheVariants.{Rows, Columns}
use Rattle.layout.specs.Layout.{Sheet, sheet_size, number, flags, body_length, offset}
use Rattle.sheet.specs.Check.{number_before, end_before_entry, flags_rule}

-- a test is passed at each of the n indices from 0 on
unfoldable pub every : (ℕ → Bool) → (n : ℕ) → Bool
every test zero = true
every test (suc n) = every test n && test n

-- nothing is refused of flags and body length; so of entry i
unfoldable pub sound : (flags len : ℕ) → Bool
sound flags len = eqb (flags_rule flags).number 0 && eqb (len % 4) 0

abbrev pub sound_at : Sheet → ℕ → Bool
sound_at s i = sound (flags s i) (body_length s i)

-- the feature number of entry i is above the one before, and its body starts where the one before ends
abbrev pub ascends : Sheet → ℕ → Bool
ascends s i = ltb (number_before s i) (number s i)

abbrev pub meets : Sheet → ℕ → Bool
meets s i = eqb (offset s i) (end_before_entry s i)

-- so of all n entries, and the sheet ends where the last body ends
abbrev pub following : (s : Sheet) (n : ℕ) → Bool
following s n = eqb (sheet_size s) (end_before_entry s n) && every (ascends s) n && every (meets s) n

-- a glance shows that nothing is refused of n entries: it is cast at 32 or more in columns, and at no others
unfoldable pub glanced : (s : Sheet) (n : ℕ) → Bool
glanced s n = not (ltb n 32) && elim s.layout [ Rows ↦ false | Columns ↦ every (sound_at s) n && following s n ]
