-- The two answers of a comparison, and a number that is none of the first ones. Assumes nothing.
use mathlib.Core.Path.{◌≡◌, refl}
use mathlib.Core.Bool.{Bool, true, false}
use mathlib.Core.Logic.{◌⊎◌, inl, inr}
use Prim.Native.Nat.{ℕ, zero, suc, ◌≤◌, ◌<◌}
use native.Mathlib.Omega.{arith}
use lib.Dec.{leb}
use borrow.Author.Tests.{leb-true, leb-false}

-- each with its fact
pub le_or_lt : (a b : ℕ) → (a ≤ b) ⊎ (b < a)
le_or_lt a b = go (leb a b) refl
  where
    go : (t : Bool) → leb a b ≡ t → (a ≤ b) ⊎ (b < a)
    go true e = inl (leb-true a b e)
    go false e = inr (leb-false a b e)

-- what is none of the numbers below k is not below k
abbrev pub NoneBelow : (k i : ℕ) → Type 0
NoneBelow zero i = Unit
NoneBelow (suc k) i = NoneBelow k i × (i ≡ k → ⊥)

pub not_below : (k i : ℕ) → NoneBelow k i → k ≤ i
not_below zero i h = omega arith
not_below (suc k) i h = let l = not_below k i h.0 in let n = h.1 in omega arith
