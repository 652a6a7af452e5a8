-- A started sweep accepts at most 65,536 responses, and the last of so many ends it, whatever it is handed; one that has ended takes nothing
-- more. Assumes nothing.
use mathlib.Core.Path.{◌≡◌, refl, sym, ap, ◌∙◌}
use mathlib.Core.Bool.{Bool, true, false, true≢false}
use mathlib.Core.List.{List, [], ◌∷◌}
use Prim.Native.Nat.{ℕ, suc, ◌+◌, ◌≤◌, ◌<◌}
use native.Mathlib.Omega.{arith}
use lib.Dec.{ltb, eqb}
use lib.ListN.{length}
use borrow.Author.Tests.{not-false, ne_eqb}
use Rattle.base.specs.Lists.{All, Bytes}
use Rattle.refusal.specs.declared.Refusal.{Refusal}
use Rattle.refusal.specs.First.{refuse, accept, ◌if◌else◌, pick_zero, ◌or_else◌}
use Rattle.text.specs.Drive.{Desc, bit, Good, Asc}
use Rattle.text.specs.Reading.{last_number}
use Rattle.refusal.proofs.First.{if_true, or_else_fault}
use Rattle.text.proofs.Again.{walked_asc, walked_good}
use Rattle.sweep.specs.declared.Sweep.{Sweep}
use Rattle.sweep.specs.declared.Step.{Step}
use Rattle.sweep.specs.Sweep.{step, start_rule, fresh, started, cut, wholes_of, take_fault, ends_sweep, left_by, advanced, ended_now, Turn, turn, taking, stepped}
use Rattle.sweep.specs.inner.Numbers.{closed_rule}
use Rattle.sweep.specs.Run.{Offer, Received, step_with, sweep_over, accepted_of}
use Rattle.sweep.proofs.Numbers.{left_same}
use Rattle.sweep.proofs.Cases.{started_cases, step_cases, stepped_fault, Taken, taken_facts, closed_first}

-- ---- the last of some ascending descriptors

last_from_law : (lo : ℕ) (ds : List Desc) → Asc lo ds → 0 < length ds → lo ≤ last_number ds
unfolding last_number
last_from_law lo [] a e = absurd (omega arith)
last_from_law lo (d ∷ []) a e = a.0
last_from_law lo (d ∷ c ∷ ds) a e = omega (arith, a.0, last_from_law (1 + d.number) (c ∷ ds) a.1 (omega arith))

last_low : (ds : List Desc) → All Good ds → last_number ds < 65536
unfolding last_number
last_low [] a = omega arith
last_low (d ∷ []) a = a.0.number_low
last_low (d ∷ c ∷ ds) a = last_low (c ∷ ds) a.1

-- ---- a step keeps the count below the next start

-- while a sweep goes on, its next start is at least the count of its commands
pub record Within (w : Sweep) : Type 0 where
  pub going : w.ended ≡ false → (w.commands ≤ w.next.0) × (w.next.0 ≤ 65535)
  pub most : w.commands ≤ 65536

module _ (w : Sweep) (s out : List ℕ) (b : Bytes s) (i : Within w) where
  advanced_within : (take_fault w s (length out)).number ≡ 0 → Within (taking w s (wholes_of w s) out).step.sweep
  unfolding taking advanced wholes_of
  advanced_within h =
      let t : Taken w s (length out) = taken_facts w s (length out) h in
      let g : (w.commands ≤ w.next.0) × (w.next.0 ≤ 65535) = i.going t.going in
      let low : last_number (wholes_of w s) < 65536 = last_low (wholes_of w s) (walked_good w.rt w.next.0 s b) in
      record {
        going = λ e.
            let c : cut s ≡ true = not-false (cut s) e in
            let f : w.next.0 ≤ last_number (wholes_of w s) = last_from_law w.next.0 (wholes_of w s) (walked_asc w.rt w.next.0 s) (t.some c) in
            rw (c, advanced) (omega arith, omega (arith, t.below c));
        most = omega arith;
      }

  stepped_within : Within (stepped w s out).step.sweep
  unfolding ended_now
  stepped_within =
      step_cases w s out (λ n v. Within v)
      (λ e. i)
      (λ e. record { going = λ f. absurd (true≢false f); most = i.most })
      advanced_within

-- ---- all steps

pub run_within : (w : Sweep) (os : List Offer) → All Received os → Within w → Within (sweep_over w os)
unfolding sweep_over
run_within w [] a i = i
run_within w (o ∷ os) a i = run_within (step_with w o).sweep os a.1 (stepped_within w o.response o.buffer a.0 i)

pub started_within : (rt a : ℕ) → Within (started rt a).sweep
unfolding ended_now fresh
started_within rt a =
    started_cases rt a Within
    record { going = λ e. (omega arith, omega arith); most = omega arith }
    record { going = λ e. absurd (true≢false e); most = omega arith }

-- the record's count is that of the accepted responses
step_commands : (w : Sweep) (s out : List ℕ) → (stepped w s out).step.sweep.commands ≡ w.commands + bit (eqb (stepped w s out).step.refusal.number 0)
unfolding taking advanced ended_now
step_commands w s out = step_cases w s out (λ n v. v.commands ≡ w.commands + bit (eqb n 0)) none none (λ h. refl)
  where
    none : (e : ℕ) → w.commands ≡ w.commands + bit (eqb (suc e) 0)
    none e = rw (ne_eqb (suc e) 0 (λ z. omega arith)) (omega arith)

pub run_commands : (w : Sweep) (os : List Offer) → (sweep_over w os).commands ≡ w.commands + accepted_of w os
unfolding sweep_over accepted_of
run_commands w [] = omega arith
run_commands w (o ∷ os) = omega (arith, run_commands (step_with w o).sweep os, step_commands w o.response o.buffer)

started_commands : (rt a : ℕ) → (started rt a).sweep.commands ≡ 0
unfolding ended_now fresh
started_commands rt a = started_cases rt a (λ w. w.commands ≡ 0) refl refl

-- ---- the theorem

module _ (rt a : ℕ) (os : List Offer) (r : All Received os) where
  count_is : (sweep_over (started rt a).sweep os).commands ≡ accepted_of (started rt a).sweep os
  count_is = omega (arith, run_commands (started rt a).sweep os, started_commands rt a)

  -- a started sweep accepts at most 65,536 responses
  pub accepts_most : accepted_of (started rt a).sweep os ≤ 65536
  accepts_most = omega (arith, count_is, (run_within (started rt a).sweep os r (started_within rt a)).most)

  -- and the last of so many ends it
  pub last_ends : accepted_of (started rt a).sweep os ≡ 65536 → (sweep_over (started rt a).sweep os).ended ≡ true
  last_ends e = go (sweep_over (started rt a).sweep os).ended refl
    where
      go : (b : Bool) → (sweep_over (started rt a).sweep os).ended ≡ b → (sweep_over (started rt a).sweep os).ended ≡ true
      go true q = q
      go false q = absurd (omega (arith, count_is, (run_within (started rt a).sweep os r (started_within rt a)).going q))

-- ---- a sweep that has ended

ended_numbers : (a b : Bool)
    → (((refuse 21 if a else refuse 22 if b else accept) or_else refuse 26).number ≡ 0 → ⊥)
    × (ends_sweep ((refuse 21 if a else refuse 22 if b else accept) or_else refuse 26) ≡ false)
unfolding ◌if◌else◌ ◌or_else◌ pick_zero ends_sweep
ended_numbers true b = (λ e. omega arith, refl)
ended_numbers false true = (λ e. omega arith, refl)
ended_numbers false false = (λ e. omega arith, refl)

module _ (w : Sweep) (h : w.ended ≡ true) where
  ended_refuses : ((closed_rule w).number ≡ 0 → ⊥) × (ends_sweep (closed_rule w) ≡ false)
  unfolding closed_rule start_rule
  ended_refuses = rw (h, if_true) (ended_numbers (ltb 1 w.rt) (ltb w.allocation 8))

  -- it refuses every response and stays as it is
  pub ended_step : (s out : List ℕ) → turn (step (closed_rule w) w) out ≡ stepped w s out
  ended_step s out =
      let f : take_fault w s (length out) ≡ closed_rule w = closed_first w s (length out) ∙ or_else_fault _ _ ended_refuses.0 in
      ap (λ (t : Step). turn t out) (left_same (closed_rule w) w (ends_sweep (closed_rule w)) refl ended_refuses.1 ∙ ap (λ (r : Refusal). step r (left_by r w)) (sym f))
      ∙ sym (stepped_fault w s out (rw f ended_refuses.0))

  -- it accepts nothing more, whatever it is handed
  pub ended_accepts_none : (os : List Offer) → (accepted_of w os ≡ 0) × (sweep_over w os ≡ w)
  unfolding accepted_of sweep_over
  ended_accepts_none [] = (refl, refl)
  ended_accepts_none (o ∷ os) =
      let e : step_with w o ≡ step (closed_rule w) w = ap (λ (t : Turn). t.step) (sym (ended_step o.response o.buffer)) in
      let n : eqb (closed_rule w).number 0 ≡ false = ne_eqb (closed_rule w).number 0 ended_refuses.0 in
      let rest : (accepted_of w os ≡ 0) × (sweep_over w os ≡ w) = ended_accepts_none os in
      rw (e, n) (omega arith, rest.1)
