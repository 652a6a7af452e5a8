-- What a loop over the rounds carries: the run from where it stands, with the fuel that its commands leave. Assumes nothing.
use mathlib.Core.Path.{◌≡◌, refl, sym, ap, ◌∙◌}
use mathlib.Core.Bool.{Bool, true, false}
use Prim.Native.Nat.{ℕ, zero, suc, ◌+◌, ◌-◌, ◌≤◌}
use native.Mathlib.Nat.{suc-add}
use native.Mathlib.Omega.{arith}
use lib.Dec.{leb}
use lib.ListN.{length}
use Rattle.text.specs.Drive.{Drive}
use Rattle.refusal.specs.declared.Refusal.{Refusal}
use Rattle.refusal.specs.First.{unless}
use Rattle.refusal.proofs.First.{if_zero, unless_none, unless_fault}
use Rattle.sweep.specs.Sweep.{take_fault, advanced, Turn, taking}
use Rattle.sweep.proofs.Cases.{step_refusal, stepped_none, taken_facts}
use Rattle.bench.specs.Bench.{Buffers, State, Ending, failing, succeeding, reply, round_fault, rounded, rounds}
use Rattle.bench.proofs.Run.{run_ended, run_turn}

-- ---- a round that nothing refuses

module _ (m : Drive) (w : State) (f : (round_fault m w).number ≡ 0) where
  -- the record takes the response
  pub taken : (take_fault w.sweep (reply m w.sweep) (length w.buffers.collected)).number ≡ 0
  unfolding round_fault
  taken = sym (ap (λ (r : Refusal). r.number) (step_refusal w.sweep (reply m w.sweep) w.buffers.collected)) ∙ (if_zero 24 (leb (length w.buffers.starts) w.sweep.commands) _ f).1

  -- it has 65,535 commands or fewer
  pub round_few : w.sweep.commands ≤ 65535
  round_few = (taken_facts w.sweep (reply m w.sweep) (length w.buffers.collected) taken).few

  -- and then one more
  pub round_commands : (rounded m w).sweep.commands ≡ w.sweep.commands + 1
  unfolding rounded taking advanced
  round_commands = ap (λ (t : Turn). t.step.sweep.commands) (stepped_none w.sweep (reply m w.sweep) w.buffers.collected taken)

  pub rounded_few : (rounded m w).sweep.commands ≤ 65536
  rounded_few = omega (arith, round_few, round_commands)

-- ---- the fuel is enough

-- more of it changes nothing
pub run_enough : (j n : ℕ) (m : Drive) (came : Buffers) (w : State) → w.sweep.commands ≤ 65536 → 65537 ≤ w.sweep.commands + n → rounds (n + j) m came w ≡ rounds n m came w
run_enough j zero m came w h k = absurd (omega arith)
run_enough j (suc n) m came w h k = rw suc-add (go w.sweep.ended refl (run_enough j n m came (rounded m w)))
  where
    go : (b : Bool) → w.sweep.ended ≡ b
        → ((rounded m w).sweep.commands ≤ 65536 → 65537 ≤ (rounded m w).sweep.commands + n → rounds (n + j) m came (rounded m w) ≡ rounds n m came (rounded m w))
        → rounds (suc (n + j)) m came w ≡ rounds (suc n) m came w
    go true e ih = run_ended (n + j) m came w e ∙ sym (run_ended n m came w e)
    go false e ih = run_turn (n + j) m came w e ∙ same (round_fault m w).number refl ih ∙ sym (run_turn n m came w e)
      where
        same : (i : ℕ) → (round_fault m w).number ≡ i
            → ((rounded m w).sweep.commands ≤ 65536 → 65537 ≤ (rounded m w).sweep.commands + n → rounds (n + j) m came (rounded m w) ≡ rounds n m came (rounded m w))
            → unless (round_fault m w) (failing came) (rounds (n + j) m came (rounded m w)) ≡ unless (round_fault m w) (failing came) (rounds n m came (rounded m w))
        same zero q ih = ap (unless (round_fault m w) (failing came)) (ih (rounded_few m w q) (omega (arith, round_commands m w q)))
        same (suc i) q ih =
            unless_fault (round_fault m w) (failing came) (rounds (n + j) m came (rounded m w)) (λ z. omega arith)
            ∙ sym (unless_fault (round_fault m w) (failing came) (rounds n m came (rounded m w)) (λ z. omega arith))

-- ---- the loop

-- the run from w on, with the fuel that its commands leave
abbrev pub onwards : (m : Drive) (came : Buffers) (w : State) → Ending
onwards m came w = rounds (65537 - w.sweep.commands) m came w

module _ (m : Drive) (came : Buffers) (w : State) where
  abbrev n : ℕ
  n = 65536 - w.sweep.commands

  fuel : w.sweep.commands ≤ 65536 → onwards m came w ≡ rounds (suc n) m came w
  fuel h = ap (λ (k : ℕ). rounds k m came w) (omega arith)

  -- the test says that it has ended
  pub onwards_ended : w.sweep.commands ≤ 65536 → w.sweep.ended ≡ true → onwards m came w ≡ succeeding w
  onwards_ended h e = fuel h ∙ run_ended n m came w e

  -- a round is refused
  pub onwards_fault : w.sweep.commands ≤ 65536 → w.sweep.ended ≡ false → ((round_fault m w).number ≡ 0 → ⊥) → onwards m came w ≡ failing came (round_fault m w)
  onwards_fault h e f = fuel h ∙ run_turn n m came w e ∙ unless_fault (round_fault m w) (failing came) (rounds n m came (rounded m w)) f

  -- or not: a further turn
  pub onwards_round : w.sweep.ended ≡ false → (round_fault m w).number ≡ 0 → onwards m came w ≡ onwards m came (rounded m w)
  onwards_round e f =
      fuel (omega (arith, round_few m w f))
      ∙ run_turn n m came w e
      ∙ unless_none (round_fault m w) (failing came) (rounds n m came (rounded m w)) f
      ∙ ap (λ (k : ℕ). rounds k m came (rounded m w)) (omega (arith, round_commands m w f))
