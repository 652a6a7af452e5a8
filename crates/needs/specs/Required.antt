-- What each profile requires: one table, with a column for each profile. Assumes nothing: these are definitions.
use Rattle.std.specs.Prelude.{Bool, not, List, [], ◌∷◌, ℕ, ◌+◌, ◌-◌, eqb}
use Rattle.std.specs.Int.Bits.{bit_and}
use Rattle.base.specs.Pick.{pick}
use Rattle.needs.specs.declared.table.Column.{Column}
use Rattle.needs.specs.declared.table.Need.{Need}

-- ---- the columns

-- the mark of each: logical units not conforming to a standard profile, removable disk, CD-ROM, DVD-ROM, DVD-RAM (002's Tables 62 and 58 to 61), and the
-- archive subset, which is asked for as 0000h
abbrev pub non_standard : ℕ
non_standard = 0x01

abbrev pub disk : ℕ
disk = 0x02

abbrev pub cd : ℕ
cd = 0x04

abbrev pub dvd : ℕ
dvd = 0x08

abbrev pub ram : ℕ
ram = 0x10

abbrev pub archive : ℕ
archive = 0x20

-- a profile, its mark, and the most bytes that a descriptor may have, its four header bytes counted
abbrev pub column : (profile mark longest : ℕ) → Column
column p m longest = record { 0 = record { 0 = p }; 1 = m; 2 = longest - 4 }

-- no descriptor has more: Additional Length is a byte
abbrev pub any_length : ℕ
any_length = 4 + 255

unfoldable pub columns : List Column
columns =
    column 0xFFFF non_standard any_length ∷
    column 0x0002 disk any_length ∷
    column 0x0008 cd any_length ∷
    column 0x0010 dvd any_length ∷
    column 0x0012 ram any_length ∷
    column 0x0000 archive 36 ∷ []

-- a profile that has no table: no line has its mark
abbrev pub no_column : Column
no_column = record { 0 = record { 0 = 0xFFFF }; 1 = 0; 2 = 0 }

unfoldable pub column_of : (profile : ℕ) → Column
column_of p = pick (λ c. eqb c.0.0 p) (λ c. c) no_column columns

unfoldable pub has_table : (profile : ℕ) → Bool
has_table p = not (eqb (column_of p).1 0)

-- ---- the lines

-- these columns need a feature; and they need it with a length of at least so many, these bits set in this byte, counted from the descriptor's start, and these
-- flags set
abbrev pub line_with : (marks feature least byte bits flags : ℕ) → Need
line_with m f least byte bits flags = record { 0 = m; 1 = record { 0 = f }; 2 = least; 3 = byte - 4; 4 = bits; 5 = flags }

abbrev pub line : (marks feature : ℕ) → Need
line m f = line_with m f 0 0 0 0

-- bit 0 of a body's byte (Page Present of 0010h, Lock of 0003h), and bit 0 of the flags, Current
abbrev pub bit0 : ℕ
bit0 = 0x01

abbrev pub on : ℕ
on = 0x01

unfoldable pub required : List Need
required =
    line (non_standard + disk + cd + dvd + ram + archive) 0x0000 ∷
    line (non_standard + disk + cd + dvd + ram + archive) 0x0001 ∷
    line (disk + cd + dvd + ram + archive) 0x0002 ∷
    line (disk + cd + dvd + ram) 0x0003 ∷
    line_with archive 0x0003 4 4 bit0 0 ∷
    line_with (disk + cd + dvd + ram + archive) 0x0010 8 10 bit0 0 ∷
    line cd 0x001E ∷
    line (dvd + ram + archive) 0x001F ∷
    line (disk + ram) 0x0020 ∷
    line_with archive 0x0020 0 0 0 on ∷
    line (disk + ram + archive) 0x0023 ∷
    line (disk + ram) 0x0024 ∷
    line_with archive 0x0024 0 0 0 on ∷
    line (disk + cd + dvd + ram + archive) 0x0100 ∷
    line (disk + ram + archive) 0x0101 ∷
    line (disk + cd + dvd + ram + archive) 0x0105 ∷
    line (dvd + ram + archive) 0x0107 ∷ []

-- a line stands in the column with this mark
unfoldable pub marked : (mark : ℕ) → Need → Bool
marked m n = not (eqb (bit_and n.0 m) 0)
