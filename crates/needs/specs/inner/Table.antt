-- The table as numbers, a row each: its fields, the last in the lowest bits. Assumes nothing: these are definitions.
use Rattle.std.specs.Prelude.{List, ℕ, ◌/◌, ◌%◌, eqb, length, get_or}
use Rattle.base.specs.Lists.{each}
use Rattle.base.specs.Pick.{pick}
use Rattle.needs.specs.declared.table.Column.{Column}
use Rattle.needs.specs.declared.table.Need.{Need}
use Rattle.needs.specs.Required.{no_column}

unfoldable pub line_read : ℕ → Need
line_read row = record {
  0 = row / 0x1000000000000 % 0x100;
  1 = record { 0 = row / 0x100000000 % 0x10000 };
  2 = row / 0x1000000 % 0x100;
  3 = row / 0x10000 % 0x100;
  4 = row / 0x100 % 0x100;
  5 = row % 0x100;
}

unfoldable pub column_read : ℕ → Column
column_read row = record { 0 = record { 0 = row / 0x10000 }; 1 = row / 0x100 % 0x100; 2 = row % 0x100 }

-- those of a table by index, and all of them
abbrev pub line_at : List ℕ → ℕ → Need
line_at rows i = line_read (get_or rows i 0)

abbrev pub column_at : List ℕ → ℕ → Column
column_at rows i = column_read (get_or rows i 0)

unfoldable pub lines_in : List ℕ → List Need
lines_in rows = each (line_at rows) 0 (length rows)

unfoldable pub column_in : List ℕ → (profile : ℕ) → Column
column_in rows p = pick (λ c. eqb c.0.0 p) (λ c. c) no_column (each (column_at rows) 0 (length rows))
