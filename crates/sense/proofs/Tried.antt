-- The kinds are tried one after the other. Assumes nothing.
use mathlib.Core.Path.{◌≡◌, refl, sym, ◌∙◌}
use mathlib.Core.Bool.{Bool, true, false}
use mathlib.Core.List.{List, [], ◌∷◌}
use Prim.Native.Nat.{ℕ}
use Rattle.refusal.specs.First.{refuse, accept}
use Rattle.base.specs.Pick.{pick}
use Rattle.base.proofs.Pick.{pick_here, pick_past}
use Rattle.sense.specs.declared.Kind.{Kind}
use Rattle.sense.specs.Sense.{Heard, hearing, same, sense_of}

-- what is found among the kinds ks
abbrev pub among : List ℕ → List Kind → Heard
among s ks = pick (λ k. same (sense_of k) s) (λ k. hearing accept (k ∷ [])) (hearing (refuse 48) []) ks

module _ (s : List ℕ) (k : Kind) (ks : List Kind) (b : Bool) (e : b ≡ same (sense_of k) s) where
  -- the bytes are those of the first, or of a later one
  pub is_first : b ≡ true → hearing accept (k ∷ []) ≡ among s (k ∷ ks)
  is_first h = sym (pick_here (λ j. same (sense_of j) s) (λ j. hearing accept (j ∷ [])) (hearing (refuse 48) []) k ks (sym e ∙ h))

  pub is_later : (v : Heard) → b ≡ false → v ≡ among s ks → v ≡ among s (k ∷ ks)
  is_later v h q = q ∙ sym (pick_past (λ j. same (sense_of j) s) (λ j. hearing accept (j ∷ [])) (hearing (refuse 48) []) k ks (sym e ∙ h))

-- they are those of none
pub is_none : (s : List ℕ) → hearing (refuse 48) [] ≡ among s []
unfolding pick
is_none s = refl
