-- A reading's refusals are numbered 20 or less. Assumes nothing.
use mathlib.Core.Bool.{Bool, true, false}
use mathlib.Core.List.{List}
use Prim.Native.Nat.{ℕ, zero, suc, ◌≤◌}
use native.Mathlib.Omega.{arith}
use lib.ListN.{length}
use Rattle.refusal.specs.declared.Refusal.{Refusal}
use Rattle.refusal.specs.First.{refuse, ◌if◌else◌, pick_zero, ◌or_else◌}
use Rattle.text.specs.Reading.{Walked, stated_length, stated_end, header_rule, head_rule, head_fault, walk, walked, read_fault}
use Rattle.text.proofs.Walk.{walk_by}

if_most : (k : ℕ) (b : Bool) (y : Refusal) → k ≤ 20 → y.number ≤ 20 → (refuse k if b else y).number ≤ 20
unfolding ◌if◌else◌
if_most k true y h l = h
if_most k false y h l = l

pick_most : (k : ℕ) (a b : Refusal) → a.number ≤ 20 → b.number ≤ 20 → (pick_zero k a b).number ≤ 20
unfolding pick_zero
pick_most zero a b h l = l
pick_most (suc k) a b h l = h

or_else_most : (a b : Refusal) → a.number ≤ 20 → b.number ≤ 20 → (a or_else b).number ≤ 20
unfolding ◌or_else◌
or_else_most a b h l = pick_most a.number a b h l

header_most : (limit rt received stated : ℕ) → (header_rule limit rt received stated).number ≤ 20
unfolding header_rule
header_most limit rt received stated =
    if_most 13 _ _ (omega arith) (if_most 14 _ _ (omega arith) (if_most 14 _ _ (omega arith) (if_most 15 _ _ (omega arith) (if_most 15 _ _ (omega arith) (if_most 16 _ _ (omega arith) (if_most 16 _ _ (omega arith) (omega arith)))))))

head_most : (rt sfn end : ℕ) (s : List ℕ) (lo at : ℕ) → (head_fault rt sfn end s lo at).number ≤ 20
unfolding head_fault head_rule
head_most rt sfn end s lo at =
    if_most 17 _ _ (omega arith) (if_most 18 _ _ (omega arith) (if_most 18 _ _ (omega arith) (if_most 19 _ _ (omega arith) (if_most 20 _ _ (omega arith) (omega arith)))))

walk_most : (k rt sfn end : ℕ) (s : List ℕ) (lo at : ℕ) → (walk k rt sfn end s lo at).fault.number ≤ 20
walk_most k rt sfn end s lo at =
    walk_by rt sfn end s (λ (lo at : ℕ) (w : Walked). w.fault.number ≤ 20) (λ lo at. omega arith) (λ lo at four. head_most rt sfn end s lo at)
    (λ lo at w e all h. h) k lo at

pub read_fault_most : (limit rt sfn : ℕ) (s : List ℕ) → (read_fault limit rt sfn s).number ≤ 20
unfolding read_fault walked
read_fault_most limit rt sfn s =
    or_else_most (header_rule limit rt (length s) (stated_length s)) (walked rt sfn s).fault (header_most limit rt (length s) (stated_length s))
    (walk_most (length s) rt sfn (stated_end s) s sfn 8)
