-- All that a sweep accepts has one Current Profile, the one that its record holds, and so comes from one of two drives with different profiles.
-- Assumes nothing.
use mathlib.Core.Path.{◌≡◌, refl, sym, ap, ◌∙◌}
use mathlib.Core.Logic.{◌⊎◌, inl, inr}
use mathlib.Core.Bool.{Bool, true, false}
use mathlib.Core.List.{List, [], ◌∷◌}
use Prim.Native.Nat.{ℕ, zero, suc, ◌+◌, ◌≤◌, ◌<◌}
use native.Mathlib.Omega.{arith}
use lib.Dec.{eqb}
use lib.ListN.{length}
use borrow.Author.Tests.{lt-ltb, ne_eqb, eqb-true, eqb-false, not-false}
use Rattle.base.specs.Lists.{All}
use Rattle.text.specs.Drive.{Drive, Sound}
use Rattle.text.specs.Response.{current_profile, sent}
use Rattle.text.specs.Reading.{stated_profile}
use Rattle.text.proofs.Own.{stated_profile_sent}
use Rattle.sweep.specs.declared.Sweep.{Sweep}
use Rattle.sweep.specs.Sweep.{started, changed, take_fault, ended_now, held_profile, advanced, taking, stepped}
use Rattle.sweep.specs.Run.{Offer, step_with, sweep_over, taken_of}
use Rattle.sweep.proofs.Numbers.{held_first, held_kept}
use Rattle.sweep.proofs.Cases.{step_cases, taken_facts}

-- a response has this profile
abbrev pub Of : ℕ → List ℕ → Type 0
Of p s = stated_profile s ≡ p

-- ---- a step

-- what a step with the response s, of refusal n, leaves: an accepted one moves the count, and the record v then holds its profile; a refused one changes neither;
-- with commands so far the profile stays
pub record Kept (w : Sweep) (s : List ℕ) (n : ℕ) (v : Sweep) : Type 0 where
  pub moves : n ≡ 0 → v.commands ≡ w.commands + 1
  pub holds : n ≡ 0 → stated_profile s ≡ v.profile.0
  pub stays : (n ≡ 0 → ⊥) → (v.commands ≡ w.commands) × (v.profile ≡ w.profile)
  pub later : 0 < w.commands → v.profile ≡ w.profile

module _ (w : Sweep) (s out : List ℕ) where
  -- with commands so far an accepted response has the profile that is held
  same : (take_fault w s (length out)).number ≡ 0 → 0 < w.commands → stated_profile s ≡ w.profile.0
  unfolding changed
  same h c = eqb-true (stated_profile s) w.profile.0 (not-false _ (rw (lt-ltb 0 w.commands c) at (taken_facts w s (length out) h).same))

  pub kept : Kept w s (stepped w s out).step.refusal.number (stepped w s out).step.sweep
  unfolding taking advanced ended_now
  kept =
      step_cases w s out (Kept w s)
      (λ e. record { moves = λ z. absurd (omega arith); holds = λ z. absurd (omega arith); stays = λ z. (refl, refl); later = λ z. refl })
      (λ e. record { moves = λ z. absurd (omega arith); holds = λ z. absurd (omega arith); stays = λ z. (refl, refl); later = λ z. refl })
      (λ h. record { moves = λ z. refl; holds = λ z. accepted h w.commands refl; stays = λ z. absurd (z refl); later = λ c. sym (held_kept w _ (λ z. omega arith)) })
    where
      accepted : (take_fault w s (length out)).number ≡ 0 → (c : ℕ) → w.commands ≡ c → stated_profile s ≡ (held_profile w record { 0 = stated_profile s }).0
      accepted h zero e = rw (← held_first w record { 0 = stated_profile s } e) refl
      accepted h (suc c) e = rw (← held_kept w record { 0 = stated_profile s } (λ z. omega arith)) (same h (omega arith))

-- ---- all steps

-- with commands so far the profile stays
run_held : (w : Sweep) (os : List Offer) → 0 < w.commands → (sweep_over w os).profile ≡ w.profile
unfolding sweep_over
run_held w [] c = refl
run_held w (o ∷ os) c =
    let k : Kept w o.response (step_with w o).refusal.number (step_with w o).sweep = kept w o.response o.buffer in
    run_held (step_with w o).sweep os (more k (step_with w o).refusal.number refl) ∙ k.later c
  where
    more : Kept w o.response (step_with w o).refusal.number (step_with w o).sweep → (n : ℕ) → (step_with w o).refusal.number ≡ n → 0 < (step_with w o).sweep.commands
    more k zero e = omega (arith, k.moves e)
    more k (suc n) e = omega (arith, (k.stays (λ z. omega arith)).0)

-- whatever is accepted from a record on has the profile that is held in the end
pub run_profile : (w : Sweep) (os : List Offer) → All (Of (sweep_over w os).profile.0) (taken_of w os)
unfolding sweep_over taken_of
run_profile w [] = tt
run_profile w (o ∷ os) = go (step_with w o).refusal.number refl (run_profile (step_with w o).sweep os)
  where
    k : Kept w o.response (step_with w o).refusal.number (step_with w o).sweep
    k = kept w o.response o.buffer

    go : (n : ℕ) → (step_with w o).refusal.number ≡ n → All (Of (sweep_over (step_with w o).sweep os).profile.0) (taken_of (step_with w o).sweep os)
        → All (Of (sweep_over (step_with w o).sweep os).profile.0)
        (elim (eqb (step_with w o).refusal.number 0) [ true ↦ o.response ∷ taken_of (step_with w o).sweep os | false ↦ taken_of (step_with w o).sweep os ])
    go zero e a = rw e (k.holds e ∙ sym (ap (λ p. p.0) (run_held (step_with w o).sweep os (omega (arith, k.moves e)))), a)
    go (suc n) e a = rw (ne_eqb (step_with w o).refusal.number 0 (λ z. omega arith)) a

-- a started sweep: one profile for all that it collects
pub one_profile : (rt a : ℕ) (os : List Offer) → All (Of (sweep_over (started rt a).sweep os).profile.0) (taken_of (started rt a).sweep os)
one_profile rt a os = run_profile (started rt a).sweep os

-- ---- two drives with different profiles

-- bytes that the drive m sends for some request of RT rt
pub record CutFrom (m : Drive) (s : List ℕ) : Type 0 where
  pub rt : ℕ
  pub start : ℕ
  pub allocation : ℕ
  pub eight : 8 ≤ allocation
  pub is : s ≡ sent rt start allocation m

-- what holds of every response that is offered holds of every one that is accepted
taken_among : (P : List ℕ → Type 0) (w : Sweep) (os : List Offer) → All (λ (o : Offer). P o.response) os → All P (taken_of w os)
unfolding taken_of
taken_among P w [] a = tt
taken_among P w (o ∷ os) a = go (eqb (step_with w o).refusal.number 0) (taken_among P (step_with w o).sweep os a.1)
  where
    go : (b : Bool) → All P (taken_of (step_with w o).sweep os)
        → All P (elim b [ true ↦ o.response ∷ taken_of (step_with w o).sweep os | false ↦ taken_of (step_with w o).sweep os ])
    go true r = (a.0, r)
    go false r = r

all_both : (P Q R : List ℕ → Type 0) → ((s : List ℕ) → P s → Q s → R s) → (ss : List (List ℕ)) → All P ss → All Q ss → All R ss
all_both P Q R f [] p q = tt
all_both P Q R f (s ∷ ss) p q = (f s p.0 q.0, all_both P Q R f ss p.1 q.1)

from_profile : {m : Drive} → Sound m → (s : List ℕ) → CutFrom m s → stated_profile s ≡ current_profile m.profiles
from_profile good s c = ap stated_profile c.is ∙ stated_profile_sent good c.rt c.start c.allocation c.eight

-- each response was cut from one of two drives with different profiles: what is accepted came from one of them, never from both
module _ {m n : Drive} (good : Sound m) (fine : Sound n) (differ : current_profile m.profiles ≡ current_profile n.profiles → ⊥) (w : Sweep) (os : List Offer) where
  abbrev Either : List ℕ → Type 0
  Either s = CutFrom m s ⊎ CutFrom n s

  pub never_both : All (λ (o : Offer). Either o.response) os → All (CutFrom m) (taken_of w os) ⊎ All (CutFrom n) (taken_of w os)
  never_both e = go (eqb p (current_profile m.profiles)) refl
    where
      p : ℕ
      p = (sweep_over w os).profile.0

      first : p ≡ current_profile m.profiles → (s : List ℕ) → Either s → Of p s → CutFrom m s
      first q s (inl c) o = c
      first q s (inr c) o = absurd (differ (sym q ∙ sym o ∙ from_profile fine s c))

      other : (p ≡ current_profile m.profiles → ⊥) → (s : List ℕ) → Either s → Of p s → CutFrom n s
      other q s (inl c) o = absurd (q (sym o ∙ from_profile good s c))
      other q s (inr c) o = c

      go : (b : Bool) → eqb p (current_profile m.profiles) ≡ b → All (CutFrom m) (taken_of w os) ⊎ All (CutFrom n) (taken_of w os)
      go true b = inl (all_both Either (Of p) (CutFrom m) (first (eqb-true p (current_profile m.profiles) b)) (taken_of w os) (taken_among Either w os e) (run_profile w os))
      go false b = inr (all_both Either (Of p) (CutFrom n) (other (eqb-false p (current_profile m.profiles) b)) (taken_of w os) (taken_among Either w os e) (run_profile w os))
