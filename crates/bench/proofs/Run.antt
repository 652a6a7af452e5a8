-- A bench sweep turn by turn, whatever the drive. Assumes nothing.
use mathlib.Core.Path.{◌≡◌, refl, ap, ◌∙◌}
use mathlib.Core.Logic.{◌⊎◌, inl, inr}
use mathlib.Core.Bool.{Bool, true, false}
use mathlib.Core.List.{List, ◌++◌}
use Prim.Native.Nat.{ℕ, zero, suc, ◌≤◌, ◌<◌}
use native.Mathlib.Omega.{arith}
use lib.ListN.{length, drop, replicate, length-append, length-drop, length-replicate}
use borrow.Author.Tests.{le-leb, lt-leb}
use Rattle.refusal.specs.declared.Refusal.{Refusal}
use Rattle.refusal.specs.First.{refuse, unless}
use Rattle.text.specs.Drive.{Drive}
use Rattle.refusal.proofs.First.{if_true, if_false, unless_none, unless_fault}
use Rattle.bench.specs.Bench.{Buffers, State, Ending, zeros, failing, succeeding, filled, turn_at, round_fault, rounded, rounds}

-- ---- the first refusal

-- no refusal afterwards: none before
pub unless_zero : (r : Refusal) (b : Buffers) (x : Ending) → (unless r (failing b) x).reply.refusal.number ≡ 0 → r.number ≡ 0
unfolding failing
unless_zero r b x h = go r.number refl
  where
    go : (n : ℕ) → r.number ≡ n → r.number ≡ 0
    go zero e = e
    go (suc n) e = absurd (omega (arith, ap (λ (o : Ending). o.reply.refusal.number) (unless_fault r (failing b) x (λ z. omega arith))))

-- ---- the response buffer

-- it keeps its length
pub length_filled : (xs d : List ℕ) → length xs ≤ length d → length (filled xs d) ≡ length d
unfolding filled zeros
length_filled xs d h =
    omega (arith, length-append xs (drop (length xs) (zeros d)), length-drop (length xs) (zeros d), length-replicate {A = ℕ} (length d) 0)

-- what it held before counts for nothing
pub filled_filled : (xs ys d : List ℕ) → length ys ≤ length d → filled xs (filled ys d) ≡ filled xs d
unfolding filled zeros
filled_filled xs ys d h = ap (λ (n : ℕ). xs ++ drop (length xs) (replicate n 0)) (length_filled ys d h)

-- ---- a round

module _ (m : Drive) (w : State) where
  -- what the record answers to the bytes sent
  abbrev pub answer : Refusal
  answer = (turn_at m w).step.refusal

  -- no room for another start
  pub round_full : length w.buffers.starts ≤ w.sweep.commands → round_fault m w ≡ refuse 25
  unfolding round_fault
  round_full h = rw (le-leb (length w.buffers.starts) w.sweep.commands h) (if_true (refuse 25) answer)

  pub round_room : w.sweep.commands < length w.buffers.starts → round_fault m w ≡ answer
  unfolding round_fault
  round_room h = rw (lt-leb (length w.buffers.starts) w.sweep.commands h) (if_false (refuse 25) answer)

-- ---- a run

module _ (n : ℕ) (m : Drive) (came : Buffers) (w : State) where
  -- it has ended
  pub run_ended : w.sweep.ended ≡ true → rounds (suc n) m came w ≡ succeeding w
  unfolding rounds
  run_ended e = ap (λ (b : Bool). elim b [ true ↦ succeeding w | false ↦ unless (round_fault m w) (failing came) (rounds n m came (rounded m w)) ]) e

  pub run_turn : w.sweep.ended ≡ false → rounds (suc n) m came w ≡ unless (round_fault m w) (failing came) (rounds n m came (rounded m w))
  unfolding rounds
  run_turn e = ap (λ (b : Bool). elim b [ true ↦ succeeding w | false ↦ unless (round_fault m w) (failing came) (rounds n m came (rounded m w)) ]) e

  -- it has not, and there is no room for another start
  pub run_full : w.sweep.ended ≡ false → length w.buffers.starts ≤ w.sweep.commands → rounds (suc n) m came w ≡ failing came (refuse 25)
  run_full e h = run_turn e ∙ rw (round_full m w h) (unless_fault (refuse 25) (failing came) (rounds n m came (rounded m w)) (λ z. omega arith))

  -- there is room for it, and the record refuses the response
  pub run_fault : w.sweep.ended ≡ false → w.sweep.commands < length w.buffers.starts → ((answer m w).number ≡ 0 → ⊥) → rounds (suc n) m came w ≡ failing came (answer m w)
  run_fault e h k = run_turn e ∙ rw (round_room m w h) (unless_fault (answer m w) (failing came) (rounds n m came (rounded m w)) k)

  -- or takes it: a further turn
  pub run_round : w.sweep.ended ≡ false → w.sweep.commands < length w.buffers.starts → (answer m w).number ≡ 0 → rounds (suc n) m came w ≡ rounds n m came (rounded m w)
  run_round e h k = run_turn e ∙ rw (round_room m w h) (unless_none (answer m w) (failing came) (rounds n m came (rounded m w)) k)

-- ---- any refusal

-- nothing is refused, or the outcome is just the refusal: both counts 0, all three buffers zero throughout
abbrev pub Settled : (came : Buffers) → Ending → Type 0
Settled came o = (o.reply.refusal.number ≡ 0) ⊎ (o ≡ failing came o.reply.refusal)

pub unless_settled : (r : Refusal) (w : Buffers) (x : Ending) → Settled w x → Settled w (unless r (failing w) x)
unfolding failing
unless_settled r w x s = go r.number refl
  where
    go : (n : ℕ) → r.number ≡ n → Settled w (unless r (failing w) x)
    go zero e = rw (unless_none r (failing w) x e) s
    go (suc n) e = rw (unless_fault r (failing w) x (λ z. omega arith)) (inr refl)

pub run_settled : (n : ℕ) (m : Drive) (came : Buffers) (w : State) → Settled came (rounds n m came w)
unfolding rounds failing succeeding
run_settled zero m came w = inr refl
run_settled (suc n) m came w = go w.sweep.ended refl (run_settled n m came (rounded m w))
  where
    go : (b : Bool) → w.sweep.ended ≡ b → Settled came (rounds n m came (rounded m w)) → Settled came (rounds (suc n) m came w)
    go true e s = rw (run_ended n m came w e) (inl refl)
    go false e s = rw (run_turn n m came w e) (unless_settled (round_fault m w) came (rounds n m came (rounded m w)) s)
