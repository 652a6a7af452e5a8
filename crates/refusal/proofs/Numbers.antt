-- What holds of every number that a chain of rules can give holds of the one that it gives. Assumes nothing.
use mathlib.Core.Path.{sym, subst}
use mathlib.Core.Bool.{Bool, true, false}
use Prim.Native.Nat.{ℕ, zero, suc}
use Rattle.refusal.specs.declared.Refusal.{Refusal}
use Rattle.refusal.specs.First.{◌if◌else◌, pick_zero, ◌or_else◌, first_of, placed}
use Rattle.refusal.proofs.First.{placed_number}

module _ (P : ℕ → Type 0) where
  pub if_holds : (x : Refusal) (b : Bool) (y : Refusal) → P x.number → P y.number → P (x if b else y).number
  unfolding ◌if◌else◌
  if_holds x true y p q = p
  if_holds x false y p q = q

  pub or_else_holds : (a b : Refusal) → P a.number → P b.number → P (a or_else b).number
  unfolding ◌or_else◌ pick_zero
  or_else_holds a b p q = go a.number
    where
      go : (n : ℕ) → P (pick_zero n a b).number
      go zero = q
      go (suc n) = p

  pub first_holds : (f : ℕ → Refusal) → P 0 → ((i : ℕ) → P (f i).number) → (i k : ℕ) → P (first_of f i k).number
  unfolding first_of
  first_holds f z h i zero = z
  first_holds f z h i (suc k) = or_else_holds (f i) (first_of f (suc i) k) (h i) (first_holds f z h (suc i) k)

  pub placed_holds : (r : Refusal) (k : ℕ) → P r.number → P (placed r k).number
  placed_holds r k p = subst P (sym (placed_number r k)) p
