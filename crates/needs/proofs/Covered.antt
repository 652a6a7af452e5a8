-- Which profile's needs are all others' too: one computed test over all columns. Assumes nothing.
use mathlib.Core.Path.{◌≡◌, refl, sym}
use mathlib.Core.Bool.{true, not, true≢false}
use Prim.Native.Nat.{ℕ}
use lib.Dec.{eqb}
use Rattle.base.proofs.Lists.{all_map}
use Rattle.base.specs.Pick.{pick}
use Rattle.needs.specs.declared.table.Column.{Column}
use Rattle.needs.specs.Required.{required, columns, column_of, has_table, marked}
use Rattle.needs.proofs.Rules.{every_all}
use Rattle.needs.proofs.Judgements.{column_all}
use Rattle.needs.proofs.Breaks.{covers}

-- what a profile asks for, FFFFh asks for no more
pub covers_plain : (p : ℕ) → has_table p ≡ true → covers (column_of p) (column_of 0xFFFF) ≡ true
unfolding has_table column_of columns required marked pick
covers_plain p =
    column_all (λ c. not (eqb c.1 0) ≡ true → covers c (column_of 0xFFFF) ≡ true) (λ z. absurd (true≢false (sym z)))
    (all_map (λ c. covers c (column_of 0xFFFF) ≡ true) (λ c. not (eqb c.1 0) ≡ true → covers c (column_of 0xFFFF) ≡ true) (λ c e z. e) columns (every_all (λ (c : Column). covers c (column_of 0xFFFF)) columns refl)) p
