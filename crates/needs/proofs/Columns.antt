-- The walk over the columns of a table. Assumes nothing.
use borrow.Author.Tests.{eq-eqb, ne_eqb}
use mathlib.Core.Path.{◌≡◌, sym, ap, ◌∙◌}
use mathlib.Core.Bool.{Bool}
use mathlib.Core.List.{List, [], ◌∷◌}
use Prim.Native.Nat.{ℕ, suc, ◌+◌, ◌-◌, ◌≤◌, ◌<◌}
use native.Mathlib.Numerals.{add-one}
use native.Mathlib.Omega.{arith}
use lib.Dec.{eqb}
use Rattle.base.specs.Lists.{each}
use Rattle.base.specs.Pick.{pick}
use Rattle.base.proofs.Pick.{pick_here, pick_past}
use Rattle.needs.specs.declared.table.Column.{Column}
use Rattle.needs.specs.Required.{no_column}
use Rattle.needs.specs.inner.Table.{column_at}

-- what is left of a walk over the rows f 0 to f (n - 1) at index i
module _ {A : Type 0} (f : ℕ → A) (n i : ℕ) where
  pub each_step : i < n → each f i (n - i) ≡ f i ∷ each f (suc i) (n - suc i)
  unfolding each
  each_step h = ap (each f i) {x = n - i} {y = suc (n - suc i)} (omega arith)

  pub each_end : n ≤ i → each f i (n - i) ≡ []
  unfolding each
  each_end h = ap (each f i) {x = n - i} {y = 0} (omega arith)

-- the column of a profile among those from index i on
abbrev pub column_from : List ℕ → (p i k : ℕ) → Column
column_from b p i k = pick (λ c. eqb c.0.0 p) (λ c. c) no_column (each (column_at b) i k)

module _ (w : Column) (p : ℕ) (b : List ℕ) (n i : ℕ) (e : w ≡ column_from b p i (n - i)) where
  abbrev is : Column → Bool
  is c = eqb c.0.0 p

  column_here : i < n → w ≡ pick is (λ c. c) no_column (column_at b i ∷ each (column_at b) (suc i) (n - suc i))
  column_here h = e ∙ ap (pick is (λ c. c) no_column) (each_step (column_at b) n i h)

  pub column_found : (x : Column) → i < n → x ≡ column_at b i → x.0.0 ≡ p → x ≡ w
  column_found x h q y = q ∙ sym (column_here h ∙ pick_here is (λ c. c) no_column (column_at b i) _ (rw (← q) (eq-eqb x.0.0 p y)))

  pub column_next : (x : Column) → i < n → x ≡ column_at b i → (x.0.0 ≡ p → ⊥) → w ≡ column_from b p (i + 1) (n - (i + 1))
  column_next x h q y = rw add-one (column_here h ∙ pick_past is (λ c. c) no_column (column_at b i) _ (rw (← q) (ne_eqb x.0.0 p y)))

  pub column_none : n ≤ i → no_column ≡ w
  unfolding pick
  column_none h = sym (e ∙ ap (pick is (λ c. c) no_column) (each_end (column_at b) n i h))
