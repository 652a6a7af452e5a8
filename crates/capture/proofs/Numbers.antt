-- Which numbers a capture can be refused with: what holds of each number of the rules holds of the number given. Assumes nothing.
use mathlib.Core.Path.{◌≡◌, refl, sym, subst}
use mathlib.Core.Logic.{◌⊎◌, inl, inr}
use mathlib.Core.Bool.{Bool, false}
use mathlib.Core.List.{List, [], ◌∷◌}
use Prim.Native.Nat.{ℕ, zero, suc, ◌+◌, ◌≤◌, ◌<◌}
use native.Mathlib.Omega.{arith}
use lib.ListN.{length}
use Rattle.refusal.specs.declared.Refusal.{Refusal}
use Rattle.refusal.specs.First.{refuse, ◌if◌else◌}
use Rattle.refusal.proofs.First.{placed_number}
use Rattle.refusal.proofs.Numbers.{if_holds, or_else_holds, first_holds}
use Rattle.text.specs.Flags as text
use Rattle.text.specs.Drive.{Desc}
use Rattle.text.specs.Reading.{stated_end, header_rule, head_rule, number_at, length_at, head_fault, walk, walked, read_fault}
use Rattle.base.proofs.Compare.{le_or_lt}
use Rattle.text.proofs.Walk.{walk_few, walk_bad, walk_short, walk_step}
use Rattle.profiles.specs.Profiles.{record_rule, record_fault, records_fault}
use Rattle.sheet.specs.Check.{flags_rule}
use Rattle.capture.specs.Capture.{own_rule, flags_faults, sheet_rule, capture_fault}
use Rattle.reading.specs.Places.{descs}
use Rattle.reading.specs.Completed.{complete_fault}

module _ (P : ℕ → Type 0) where
  if_not : (k : ℕ) (b : Bool) (y : Refusal) → b ≡ false → P y.number → P (refuse k if b else y).number
  unfolding ◌if◌else◌
  if_not k b y e l = rw (e, ◌if◌else◌) l

-- ---- a reading with RT 0: neither 13 nor 19

module _ (P : ℕ → Type 0) (p0 : P 0) (p17 : P 17) (p18 : P 18) (p20 : P 20) (sfn end : ℕ) (s : List ℕ) where
  head_is : (lo at : ℕ) → P (head_fault 0 sfn end s lo at).number
  unfolding head_fault head_rule
  head_is lo at = if_holds P (refuse 17) _ _ p17 (if_holds P (refuse 18) _ _ p18 (if_holds P (refuse 18) _ _ p18 (if_not P 19 _ _ refl (if_holds P (refuse 20) _ _ p20 p0))))

  walk_is : (k lo at : ℕ) → P (walk k 0 sfn end s lo at).fault.number
  unfolding walk
  walk_is zero lo at = p0
  walk_is (suc k) lo at =
      go (head_fault 0 sfn end s lo at).number refl (le_or_lt (at + 4) (length s)) (le_or_lt (at + 4 + length_at s at) (length s))
      (walk_is k (number_at s at + 1) (at + 4 + length_at s at))
    where
      go : (n : ℕ) → (head_fault 0 sfn end s lo at).number ≡ n → (at + 4 ≤ length s) ⊎ (length s < at + 4)
          → (at + 4 + length_at s at ≤ length s) ⊎ (length s < at + 4 + length_at s at)
          → P (walk k 0 sfn end s (number_at s at + 1) (at + 4 + length_at s at)).fault.number
          → P (walk (suc k) 0 sfn end s lo at).fault.number
      go n e (inr few) q h = rw (walk_few k 0 sfn end s lo at few) p0
      go zero e (inl four) (inl all) h = rw (walk_step k 0 sfn end s lo at four e all) h
      go zero e (inl four) (inr cut) h = rw (walk_short k 0 sfn end s lo at four e cut) p0
      go (suc n) e (inl four) q h = rw (walk_bad k 0 sfn end s lo at four (λ z. omega arith)) (head_is lo at)

read_is : (P : ℕ → Type 0) → P 0 → P 14 → P 15 → P 16 → P 17 → P 18 → P 20 → (limit sfn : ℕ) (s : List ℕ) → P (read_fault limit 0 sfn s).number
unfolding read_fault header_rule walked
read_is P p0 p14 p15 p16 p17 p18 p20 limit sfn s =
    or_else_holds P _ _
    (if_not P 13 _ _ refl (if_holds P (refuse 14) _ _ p14 (if_holds P (refuse 14) _ _ p14 (if_holds P (refuse 15) _ _ p15 (if_holds P (refuse 15) _ _ p15 (if_holds P (refuse 16) _ _ p16 (if_holds P (refuse 16) _ _ p16 p0)))))))
    (walk_is P p0 p17 p18 p20 sfn (stated_end s) s (length s) sfn 8)

-- and whether it is complete
pub complete_is : (P : ℕ → Type 0) → P 0 → P 14 → P 15 → P 16 → P 17 → P 18 → P 20 → P 29 → (r : List ℕ) → P (complete_fault r).number
unfolding complete_fault
complete_is P p0 p14 p15 p16 p17 p18 p20 p29 r = or_else_holds P _ _ (read_is P p0 p14 p15 p16 p17 p18 p20 65534 0 r) (if_holds P (refuse 29) _ _ p29 p0)

-- ---- a capture

module _ (P : ℕ → Type 0) (p0 : P 0) where
  pub own_is : P 41 → (r : List ℕ) (ds : List Desc) → P (own_rule r ds).number
  unfolding own_rule
  own_is p41 r [] = p41
  own_is p41 r (z ∷ ds) = if_holds P (refuse 41) _ _ p41 (if_holds P (refuse 41) _ _ p41 (if_holds P (refuse 41) _ _ p41 (if_holds P (refuse 41) _ _ p41 p0)))

  pub rule_is : P 5 → P 44 → (f : ℕ) → P (flags_rule f).number
  unfolding flags_rule text.flags_giving
  rule_is p5 p44 f = or_else_holds P _ _ (if_holds P (refuse 5) _ _ p5 p0) (if_holds P (refuse 44) _ _ p44 p0)

  flags_is : P 5 → P 44 → (k : ℕ) (ds : List Desc) → P (flags_faults k ds).number
  unfolding flags_faults
  flags_is p5 p44 k [] = p0
  flags_is p5 p44 k (d ∷ ds) = or_else_holds P _ _ (subst P (sym (placed_number _ k)) (rule_is p5 p44 d.flags)) (flags_is p5 p44 (k + 1) ds)

  pub record_is : P 3 → (b : List ℕ) (i : ℕ) → P (record_fault b i).number
  unfolding record_fault record_rule
  record_is p3 b i = subst P (sym (placed_number _ (suc i))) (if_holds P (refuse 3) _ _ p3 (if_holds P (refuse 3) _ _ p3 (if_holds P (refuse 3) _ _ p3 (if_holds P (refuse 3) _ _ p3 p0))))

  sheet_is : P 3 → P 5 → P 44 → (ds : List Desc) → P (sheet_rule ds).number
  unfolding sheet_rule records_fault
  sheet_is p3 p5 p44 [] = p0
  sheet_is p3 p5 p44 (z ∷ ds) = or_else_holds P _ _ (first_holds P _ p0 (record_is p3 z.body) 0 _) (flags_is p5 p44 1 ds)

pub capture_is : (P : ℕ → Type 0) → P 0 → P 14 → P 15 → P 16 → P 17 → P 18 → P 20 → P 29 → P 41 → P 3 → P 5 → P 44 → (r : List ℕ) → P (capture_fault r).number
unfolding capture_fault
capture_is P p0 p14 p15 p16 p17 p18 p20 p29 p41 p3 p5 p44 r =
    or_else_holds P (complete_fault r) _ (complete_is P p0 p14 p15 p16 p17 p18 p20 p29 r)
    (or_else_holds P _ _ (own_is P p0 p41 r (descs r)) (sheet_is P p0 p3 p5 p44 (descs r)))
