-- What is said of one feature, in other terms than the definition: that it breaks the profile, and for which reason, or that it does not. Assumes nothing.
use mathlib.Core.Path.{◌≡◌, refl, sym, ap, ◌∙◌}
use mathlib.Core.Bool.{false, true≢false}
use mathlib.Core.List.{[], ◌∷◌, List}
use Prim.Native.Nat.{ℕ, zero, suc}
use native.Mathlib.Omega.{arith}
use Rattle.refusal.proofs.First.{unless_none}
use Rattle.text.proofs.Received.{wholes_asc}
use Rattle.reading.specs.Places.{descs}
use Rattle.reading.specs.Completed.{complete_fault}
use Rattle.needs.specs.declared.Wrong.{Wrong}
use Rattle.needs.specs.Required.{required, column_of}
use Rattle.needs.specs.Judge.{Said, says, says_conforms, says_broken, wrong_number, wrong_in, lowest_from, judge_fault}
use Rattle.needs.specs.Alone.{judged_of}
use Rattle.needs.proofs.Lowest.{none_lowest, found_lowest, lowest_past, lowest_here}
use Rattle.needs.proofs.Judgements.{column_ascends}
use Rattle.needs.proofs.Judgements.{judge_input}
use Rattle.needs.proofs.Judged.{unrefused}
use Rattle.needs.proofs.Broken.{Breaks, Reason}
use Rattle.needs.proofs.Breaks.{wrong_breaks, breaks_wrong, wrong_reason}

-- a refused response is refused with its number; else the feature breaks the profile or it does not, and no other is named
pub record Judged (p f : ℕ) (s : List ℕ) (j : Said) : Type 0 where
  pub refuses : ((complete_fault s).number ≡ 0 → ⊥) → j ≡ says (complete_fault s) false [] 0
  pub conforms : j ≡ says_conforms → Breaks (column_of p) (descs s) f → ⊥
  pub own : (g v : ℕ) → j ≡ says_broken g v → g ≡ f
  pub breaks : (v : ℕ) → j ≡ says_broken f v → Breaks (column_of p) (descs s) f
  pub reason : (w : Wrong) → j ≡ says_broken f (wrong_number w) → Reason (column_of p) (descs s) f w

-- one number is the lowest of itself
lowest_own : (w : ℕ → ℕ) (f g v : ℕ) → lowest_from w f 1 ≡ says_broken g v → g ≡ f
unfolding lowest_from
lowest_own w f g v e = go (w f) refl
  where
    go : (k : ℕ) → w f ≡ k → g ≡ f
    go zero z = absurd (true≢false (ap (λ (x : Said). x.conforms) (sym (lowest_past w f 0 z) ∙ e)))
    go (suc k) z =
        let m : (f ∷ []) ≡ (g ∷ []) = ap (λ (x : Said). x.feature) (sym (lowest_here w f 0 k z) ∙ e) in
        let q : f ≡ g = cc in
        sym q

module _ (p f : ℕ) (s : List ℕ) where
  abbrev wrongs : ℕ → ℕ
  wrongs = wrong_in required (column_of p) (descs s)

  one_is : (x : Said) → judged_of p f s ≡ x → x.refusal.number ≡ 0 → lowest_from wrongs f 1 ≡ x
  unfolding judged_of
  one_is x e k = sym (unless_none (judge_fault p s) _ _ (unrefused (judge_fault p s) _ x e k)) ∙ e

  pub judged_so : Judged p f s (judged_of p f s)
  unfolding judged_of
  judged_so = record {
    refuses = λ h. sym (judge_input p s _ (complete_fault s) refl h);
    conforms = λ e b.
        breaks_wrong (column_of p) 0 (descs s) (column_ascends p) (wholes_asc 65534 0 0 s) f b
        (none_lowest wrongs f 1 (one_is says_conforms e refl) f (omega arith) (omega arith));
    own = λ g v e. lowest_own wrongs f g v (one_is (says_broken g v) e refl);
    breaks = λ v e.
        let o = found_lowest wrongs f 1 f v (one_is (says_broken f v) e refl) in
        wrong_breaks (column_of p) 0 (descs s) (column_ascends p) (wholes_asc 65534 0 0 s) f (λ z. o.some (sym o.here ∙ z));
    reason = λ w e.
        let o = found_lowest wrongs f 1 f (wrong_number w) (one_is (says_broken f (wrong_number w)) e refl) in
        wrong_reason (column_of p) 0 (descs s) (column_ascends p) (wholes_asc 65534 0 0 s) f w o.here;
  }
