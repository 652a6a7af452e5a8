-- The rules and records in the numbers of a scan, case by case. Assumes nothing.
use mathlib.Core.Path.{◌≡◌, refl, sym, ap, ◌∙◌}
use mathlib.Core.Bool.{Bool, true, false, not, true≢false}
use Prim.Native.Nat.{ℕ, zero, suc, ◌+◌, ◌≤◌, ◌<◌}
use native.Mathlib.Omega.{arith}
use borrow.Author.Tests.{lt-ltb, le-ltb, eq-eqb, ne_eqb}
use Rattle.refusal.specs.declared.Refusal.{Refusal}
use Rattle.refusal.specs.First.{refuse, accept, ◌if◌else◌, unless}
use Rattle.refusal.proofs.First.{unless_none, unless_fault, rule_accepts}
use Rattle.text.specs.declared.Profile.{Profile}
use Rattle.sweep.specs.declared.Sweep.{Sweep}
use Rattle.sweep.specs.declared.Step.{Step}
use Rattle.sweep.specs.Sweep.{step, start_rule, fresh, started, ended_now, ends_sweep, left_by, held_profile, advanced}
use Rattle.sweep.specs.inner.Numbers.{space_rule}

-- ---- the rules

module _ (collected size room : ℕ) where
  pub space_full : room < collected + size → refuse 24 ≡ space_rule collected size room
  unfolding space_rule ◌if◌else◌
  space_full h = rw (lt-ltb room (collected + size) h)

  pub space_free : collected + size ≤ room → accept ≡ space_rule collected size room
  unfolding space_rule ◌if◌else◌
  space_free h = rw (le-ltb room (collected + size) h)

-- ---- starting

module _ (rt a : ℕ) (r : Refusal) (q : r ≡ start_rule rt a) where
  opens : started rt a ≡ unless r (λ k. step k (ended_now (fresh 0 0))) (step accept (fresh rt a))
  unfolding started
  opens = rw q

  pub start_fault : (r.number ≡ 0 → ⊥) → step r (ended_now (fresh 0 0)) ≡ started rt a
  start_fault h = sym (opens ∙ unless_fault r _ _ h)

  start_accepts : r.number ≡ 0 → r ≡ accept
  unfolding start_rule
  start_accepts h = q ∙ rule_accepts _ _ _ (rule_accepts _ _ _ (λ z. refl)) (sym (ap (λ (x : Refusal). x.number) q) ∙ h)

  pub start_fresh : r.number ≡ 0 → step r (fresh rt a) ≡ started rt a
  start_fresh h = ap (λ (x : Refusal). step x (fresh rt a)) (start_accepts h) ∙ sym (opens ∙ unless_none r _ _ h)

-- the refusal, whatever record it comes with
pub start_refusal : (rt a : ℕ) → (started rt a).refusal ≡ start_rule rt a
start_refusal rt a = go (start_rule rt a).number refl
  where
    go : (n : ℕ) → (start_rule rt a).number ≡ n → (started rt a).refusal ≡ start_rule rt a
    go zero e = ap (λ (t : Step). t.refusal) (sym (start_fresh rt a (start_rule rt a) refl e))
    go (suc n) e = ap (λ (t : Step). t.refusal) (sym (start_fault rt a (start_rule rt a) refl (λ z. omega arith)))

-- ---- the record afterwards

-- 23 and 45 end the sweep, nothing else does
module _ (r : Refusal) where
  pub ends_none_whole : r.number ≡ 23 → true ≡ ends_sweep r
  unfolding ends_sweep
  ends_none_whole h = rw h

  pub ends_changed : r.number ≡ 45 → true ≡ ends_sweep r
  unfolding ends_sweep
  ends_changed h = rw h

  pub ends_not : (r.number ≡ 23 → ⊥) → (r.number ≡ 45 → ⊥) → false ≡ ends_sweep r
  unfolding ends_sweep
  ends_not g h = rw (ne_eqb r.number 23 g, ne_eqb r.number 45 h)

  pub ends_refuses : ends_sweep r ≡ true → r.number ≡ 0 → ⊥
  unfolding ends_sweep
  ends_refuses e h = true≢false (sym (rw h at e))

-- the profile of the first accepted response
module _ (w : Sweep) (p : Profile) where
  pub held_first : w.commands ≡ 0 → p ≡ held_profile w p
  unfolding held_profile
  held_first h = rw (eq-eqb w.commands 0 h, held_profile)

  pub held_kept : (w.commands ≡ 0 → ⊥) → w.profile ≡ held_profile w p
  unfolding held_profile
  held_kept h = rw (ne_eqb w.commands 0 h, held_profile)

module _ (r : Refusal) (w : Sweep) (b : Bool) (e : b ≡ ends_sweep r) where
  pub left_ended : b ≡ true → step r (ended_now w) ≡ step r (left_by r w)
  unfolding left_by
  left_ended h = rw (sym e ∙ h, left_by)

  pub left_same : b ≡ false → step r w ≡ step r (left_by r w)
  unfolding left_by
  left_same h = rw (sym e ∙ h, left_by)

module _ (w : Sweep) (profile p : Profile) (complete : Bool) (last collected : ℕ) (e : p ≡ held_profile w profile) where
  pub moved_complete : complete ≡ true
      → record { rt = w.rt; allocation = w.allocation; next = w.next; commands = w.commands + 1; collected = collected; ended = complete; profile = p }
      ≡ advanced w profile (not complete) last collected
  unfolding advanced
  moved_complete h = rw (e, h, advanced)

  pub moved_cut : complete ≡ false
      → record { rt = w.rt; allocation = w.allocation; next = record { 0 = last + 1 }; commands = w.commands + 1; collected = collected; ended = complete; profile = p }
      ≡ advanced w profile (not complete) last collected
  unfolding advanced
  moved_cut h = rw (e, h, advanced)
