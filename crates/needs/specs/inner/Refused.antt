-- What refuses a judgement, by the profile's column. Assumes nothing: these are definitions.
use Rattle.std.specs.Prelude.{List, ℕ, eqb}
use Rattle.refusal.specs.declared.Refusal.{Refusal}
use Rattle.refusal.specs.First.{refuse, accept, ◌if◌else◌, ◌or_else◌}
use Rattle.reading.specs.Completed.{complete_fault}
use Rattle.needs.specs.declared.table.Column.{Column}

-- the reading's numbers, 29, then 40: a column without a mark is that of a profile without a table
abbrev pub column_fault : Column → List ℕ → Refusal
column_fault c s =
    complete_fault s or_else
    refuse 40 if eqb c.1 0 else
    accept
