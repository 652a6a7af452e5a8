-- Two byte strings, place by place: how far they are the same, and where only zeros are left. Assumes nothing.
use mathlib.Core.Path.{◌≡◌, refl, sym, ap, ap₂, ◌∙◌}
use mathlib.Core.Bool.{Bool, true, false, ◌&&◌}
use mathlib.Core.List.{List, [], ◌∷◌}
use Prim.Native.Nat.{ℕ, suc, ◌+◌, ◌≤◌, ◌<◌}
use native.Mathlib.Nat.{add-zero}
use native.Mathlib.Numerals.{add-one}
use native.Mathlib.Omega.{arith}
use lib.Dec.{eqb}
use lib.ListN.{length, get_or, drop, drop_of_length-le}
use lib.Seq.{drop-cons}
use borrow.Author.Tests.{eq-eqb, ne_eqb, lt-ltb, le-ltb}
use Rattle.refusal.specs.First.{◌if◌else◌}
use Rattle.refusal.proofs.First.{if_true, if_false}
use Rattle.judge.specs.Verdict.{common, all_zero, met, compared, unasked}
use Rattle.refusal.specs.declared.Refusal.{Refusal}
use Rattle.judge.specs.declared.Mistake.TheVariants.{Unexplained}
use Rattle.judge.specs.declared.Verdict.TheVariants.{Exact, Padded, Short, Wrong, Answered}

-- ---- how far two are the same: up to i they are

common_none : (a : List ℕ) → common a [] ≡ 0
unfolding common
common_none [] = refl
common_none (x ∷ a) = refl

module _ (a b : List ℕ) (i : ℕ) (e : common a b ≡ i + common (drop i a) (drop i b)) where
  -- one of them ends there
  pub common_left : length a ≤ i → i ≡ common a b
  unfolding common
  common_left h = sym (e ∙ ap (λ (l : List ℕ). i + common l (drop i b)) (drop_of_length-le a h) ∙ add-zero i)

  pub common_right : length b ≤ i → i ≡ common a b
  common_right h = sym (e ∙ ap (λ (l : List ℕ). i + common (drop i a) l) (drop_of_length-le b h) ∙ ap (λ (n : ℕ). i + n) (common_none (drop i a)) ∙ add-zero i)

  -- x and y stand there
  module _ (x y : ℕ) (ex : x ≡ get_or a i 0) (ey : y ≡ get_or b i 0) (ha : i < length a) (hb : i < length b) where
    here : common a b ≡ i + common (x ∷ drop (suc i) a) (y ∷ drop (suc i) b)
    here = e ∙ ap₂ (λ (l m : List ℕ). i + common l m) (drop-cons a i 0 ha) (drop-cons b i 0 hb) ∙ rw (ex, ey) refl

    pub common_differs : (x ≡ y → ⊥) → i ≡ common a b
    unfolding common
    common_differs n = sym (here ∙ rw (ne_eqb x y n, common, add-zero) refl)

    pub common_next : x ≡ y → common a b ≡ (i + 1) + common (drop (i + 1) a) (drop (i + 1) b)
    unfolding common
    common_next q = here ∙ rw (eq-eqb x y q, common, add-one) (omega arith)

-- ---- nothing but zeros

module _ (s : List ℕ) (at i : ℕ) (e : all_zero (drop at s) ≡ all_zero (drop i s)) where
  pub zeros_end : length s ≤ i → true ≡ all_zero (drop at s)
  unfolding all_zero
  zeros_end h = sym (e ∙ ap all_zero (drop_of_length-le s h))

  module _ (x : ℕ) (ex : x ≡ get_or s i 0) (h : i < length s) where
    zeros_here : all_zero (drop at s) ≡ (eqb x 0 && all_zero (drop (suc i) s))
    unfolding all_zero
    zeros_here = e ∙ ap all_zero (drop-cons s i 0 h) ∙ rw ex refl

    pub zeros_not : (x ≡ 0 → ⊥) → false ≡ all_zero (drop at s)
    zeros_not n = sym (zeros_here ∙ rw (ne_eqb x 0 n) refl)

    pub zeros_next : x ≡ 0 → all_zero (drop at s) ≡ all_zero (drop (i + 1) s)
    zeros_next q = zeros_here ∙ rw (eq-eqb x 0 q, add-one) refl

-- ---- the verdict, where they are the same up to k

module _ (due x : List ℕ) (k : ℕ) (e : k ≡ common due x) where
  compared_at : compared due x ≡ met k due x
  unfolding compared
  compared_at = ap (λ (n : ℕ). met n due x) (sym e)

  pub met_wrong : k < length due → k < length x → Wrong k Unexplained ≡ compared due x
  unfolding met
  met_wrong h l = sym (compared_at ∙ rw (lt-ltb k (length due) h, if_true, lt-ltb k (length x) l, if_true))

  pub met_short : k < length due → length x ≤ k → Short k ≡ compared due x
  unfolding met
  met_short h l = sym (compared_at ∙ rw (lt-ltb k (length due) h, if_true, le-ltb k (length x) l, if_false))

  pub met_exact : length due ≤ k → length x ≤ k → Exact ≡ compared due x
  unfolding met
  met_exact h l = sym (compared_at ∙ rw (le-ltb k (length due) h, if_false, le-ltb k (length x) l, if_false))

  module _ (h : length due ≤ k) (l : k < length x) (b : Bool) (eb : b ≡ all_zero (drop k x)) where
    met_behind : compared due x ≡ (Padded k if b else Wrong k Unexplained)
    unfolding met
    met_behind = compared_at ∙ rw (le-ltb k (length due) h, if_false, lt-ltb k (length x) l, if_true, eb) refl

    pub met_padded : b ≡ true → Padded k ≡ compared due x
    met_padded q = sym (met_behind ∙ rw (q, if_true))

    pub met_other : b ≡ false → Wrong k Unexplained ≡ compared due x
    met_other q = sym (met_behind ∙ rw (q, if_false))

-- ---- a command that is refused

pub unasked_none : (r : Refusal) (x : List ℕ) → length x ≡ 0 → Exact ≡ unasked r x
unfolding unasked
unasked_none r [] h = refl
unasked_none r (y ∷ x) h = absurd (omega arith)

pub unasked_some : (r : Refusal) (x : List ℕ) → (length x ≡ 0 → ⊥) → Answered r ≡ unasked r x
unfolding unasked
unasked_some r [] h = absurd (h refl)
unasked_some r (y ∷ x) h = refl
