-- The driver's sweep, one step at a time: what starting gives, and what a response changes. Assumes nothing.
use mathlib.Core.Path.{◌≡◌, refl, sym, ap, ◌∙◌}
use mathlib.Core.Bool.{true, false}
use mathlib.Core.List.{List, [], ◌∷◌}
use Prim.Native.Nat.{ℕ}
use lib.ListN.{length}
use Rattle.base.specs.Lists.{Bytes}
use Rattle.refusal.specs.declared.Refusal.{Refusal}
use Rattle.refusal.specs.First.{accept}
use Rattle.refusal.proofs.First.{unless_none, unless_fault}
use Rattle.sweep.specs.declared.Sweep.{Sweep}
use Rattle.sweep.specs.declared.Step.{Step}
use Rattle.sweep.specs.Sweep.{step, start_rule, fresh, started, wholes_of, take_fault, ended_now, ends_sweep, Turn, turn, taking, stepped}
use Rattle.sweep.specs.Run.{sweep_over}
use Rattle.sweep.proofs.Numbers.{ends_refuses, left_ended, left_same}
use Rattle.sweep.proofs.Cases.{stepped_fault, stepped_none}
use Rattle.sweep.proofs.Profiles.{Kept, kept}
use Rattle.sweep.proofs.Ends.{Within, started_within, run_within}
use Rattle.sweep.proofs.Promised.{Begins, begins, Outright, outright}

-- Of the step t that starts a sweep of RT rt with allocation length a: a fresh record, or the refusal and a record that has ended.
pub record Starts (rt a : ℕ) (t : Step) : Type 0 where
  pub fine : (start_rule rt a).number ≡ 0 → t ≡ step accept (fresh rt a)
  pub refuses : ((start_rule rt a).number ≡ 0 → ⊥) → t ≡ step (start_rule rt a) (ended_now (fresh 0 0))
  -- in the paper's numbers: 21 before 22, and what the record then holds
  pub outright : Begins rt a t
  pub within : Within t.sweep

pub starts : (rt a : ℕ) → Starts rt a (started rt a)
unfolding started
starts rt a = record {
  fine = λ e. unless_none (start_rule rt a) _ _ e;
  refuses = λ h. unless_fault (start_rule rt a) _ _ h;
  outright = begins rt a;
  within = started_within rt a;
}

-- Of the turn t that the record w makes with the response s and the collecting buffer out: an accepted response moves the record on and puts its
-- whole descriptors behind those collected; a refused one changes nothing, but that 23 and 45 end the sweep.
pub record Takes (w : Sweep) (s out : List ℕ) (t : Turn) : Type 0 where
  pub takes : (take_fault w s (length out)).number ≡ 0 → t ≡ taking w s (wholes_of w s) out
  pub ends : ends_sweep (take_fault w s (length out)) ≡ true → t ≡ turn (step (take_fault w s (length out)) (ended_now w)) out
  pub refuses : ((take_fault w s (length out)).number ≡ 0 → ⊥) → ends_sweep (take_fault w s (length out)) ≡ false → t ≡ turn (step (take_fault w s (length out)) w) out
  -- in the paper's numbers: which refusal comes first, that 23 and 45 end the sweep and any other changes nothing, and what an accepted response leaves
  pub outright : Outright w s out t
  -- an accepted response has the profile that the record then holds, and one that was held with commands so far stays
  pub profile : Kept w s t.step.refusal.number t.step.sweep
  -- a sweep that is within its 65,536 commands stays so
  pub within : Bytes s → Within w → Within t.step.sweep

module _ (w : Sweep) (s out : List ℕ) where
  abbrev fault : Refusal
  fault = take_fault w s (length out)

  pub takes : Takes w s out (stepped w s out)
  unfolding sweep_over
  takes = record {
    takes = stepped_none w s out;
    ends = λ e. stepped_fault w s out (ends_refuses fault e) ∙ ap (λ (t : Step). turn t out) (sym (left_ended fault w (ends_sweep fault) refl e));
    refuses = λ h k. stepped_fault w s out h ∙ ap (λ (t : Step). turn t out) (sym (left_same fault w (ends_sweep fault) refl k));
    outright = outright w s out;
    profile = kept w s out;
    within = λ b i. run_within w (record { response = s; buffer = out } ∷ []) (b, tt) i;
  }
