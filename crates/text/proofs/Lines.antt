-- No number that a reading is refused with has a place. Assumes nothing.
use mathlib.Core.Path.{◌≡◌, refl}
use mathlib.Core.Logic.{◌⊎◌, inl, inr}
use mathlib.Core.List.{List}
use Prim.Native.Nat.{ℕ, zero, suc, ◌+◌, ◌≤◌, ◌<◌}
use native.Mathlib.Omega.{arith}
use lib.ListN.{length}
use Rattle.base.proofs.Compare.{le_or_lt}
use Rattle.refusal.specs.Lines.{of_entry, has_place}
use Rattle.refusal.proofs.Lines.{Nowhere, if_nowhere, or_else_nowhere}
use Rattle.text.specs.Reading.{header_rule, head_rule, number_at, length_at, head_fault, walk, walked, read_fault}
use Rattle.text.proofs.Walk.{walk_few, walk_bad, walk_short, walk_step}

module _ (rt sfn end : ℕ) (s : List ℕ) where
  head_nowhere : (lo at : ℕ) → Nowhere (head_fault rt sfn end s lo at)
  unfolding head_fault head_rule of_entry has_place
  head_nowhere lo at = if_nowhere _ _ _ refl (if_nowhere _ _ _ refl (if_nowhere _ _ _ refl (if_nowhere _ _ _ refl (if_nowhere _ _ _ refl refl))))

  walk_nowhere : (k lo at : ℕ) → Nowhere (walk k rt sfn end s lo at).fault
  unfolding walk of_entry has_place
  walk_nowhere zero lo at = refl
  walk_nowhere (suc k) lo at =
      go (head_fault rt sfn end s lo at).number refl (le_or_lt (at + 4) (length s)) (le_or_lt (at + 4 + length_at s at) (length s))
      (walk_nowhere k (number_at s at + 1) (at + 4 + length_at s at))
    where
      go : (n : ℕ) → (head_fault rt sfn end s lo at).number ≡ n → (at + 4 ≤ length s) ⊎ (length s < at + 4)
          → (at + 4 + length_at s at ≤ length s) ⊎ (length s < at + 4 + length_at s at)
          → Nowhere (walk k rt sfn end s (number_at s at + 1) (at + 4 + length_at s at)).fault
          → Nowhere (walk (suc k) rt sfn end s lo at).fault
      go n e (inr few) q h = rw (walk_few k rt sfn end s lo at few) refl
      go zero e (inl four) (inl all) h = rw (walk_step k rt sfn end s lo at four e all) h
      go zero e (inl four) (inr cut) h = rw (walk_short k rt sfn end s lo at four e cut) refl
      go (suc n) e (inl four) q h = rw (walk_bad k rt sfn end s lo at four (λ z. omega arith)) (head_nowhere lo at)

pub read_nowhere : (limit rt sfn : ℕ) (s : List ℕ) → Nowhere (read_fault limit rt sfn s)
unfolding read_fault header_rule walked of_entry has_place
read_nowhere limit rt sfn s =
    or_else_nowhere _ _
    (if_nowhere _ _ _ refl (if_nowhere _ _ _ refl (if_nowhere _ _ _ refl (if_nowhere _ _ _ refl (if_nowhere _ _ _ refl (if_nowhere _ _ _ refl (if_nowhere _ _ _ refl refl)))))))
    (walk_nowhere rt sfn _ s _ _ _)
