-- The comparison of two byte strings, place by place. Assumes nothing.
use mathlib.Core.Path.{◌≡◌, refl, sym, ap, ap₂, ◌∙◌}
use mathlib.Core.Bool.{Bool, true, false, ◌&&◌, and-false, true≢false}
use mathlib.Core.List.{List, [], ◌∷◌}
use Prim.Native.Nat.{ℕ, suc, ◌+◌, ◌≤◌, ◌<◌}
use native.Mathlib.Numerals.{add-one}
use native.Mathlib.Omega.{arith}
use lib.Dec.{eqb}
use lib.ListN.{length, get_or, drop, drop_of_length-le}
use lib.Seq.{drop-cons}
use borrow.Author.Tests.{eq-eqb, ne_eqb, eqb-true}
use Rattle.sense.specs.Sense.{same}

both : (a b : Bool) → (a && b) ≡ true → (a ≡ true) × (b ≡ true)
both true b e = (refl, e)
both false b e = absurd (true≢false (sym e))

-- strings of different lengths are not the same
pub same_lengths : (a b : List ℕ) → (length a ≡ length b → ⊥) → false ≡ same a b
unfolding same
same_lengths [] [] h = absurd (h refl)
same_lengths [] (y ∷ b) h = refl
same_lengths (x ∷ a) [] h = refl
same_lengths (x ∷ a) (y ∷ b) h = rw (← same_lengths a b (λ q. h (ap suc q))) (sym (and-false (eqb x y)))

-- those that are the same are equal
pub same_equal : (a b : List ℕ) → same a b ≡ true → a ≡ b
unfolding same
same_equal [] [] h = refl
same_equal [] (y ∷ b) h = absurd (true≢false (sym h))
same_equal (x ∷ a) [] h = absurd (true≢false (sym h))
same_equal (x ∷ a) (y ∷ b) h = let p = both (eqb x y) (same a b) h in ap₂ ◌∷◌ (eqb-true x y p.0) (same_equal a b p.1)

-- at a place i up to which nothing differs, x and y stand
module _ (a b : List ℕ) (i : ℕ) (q : length a ≡ length b) (e : same a b ≡ same (drop i a) (drop i b)) (x y : ℕ) (ex : x ≡ get_or a i 0) (ey : y ≡ get_or b i 0) where
  here : i < length a → same a b ≡ (eqb x y && same (drop (i + 1) a) (drop (i + 1) b))
  unfolding same
  here h = e ∙ ap₂ same (drop-cons a i 0 h) (drop-cons b i 0 (omega (arith, q))) ∙ rw (ex, ey, add-one) refl

  -- they differ
  pub same_differs : i < length a → (x ≡ y → ⊥) → false ≡ same a b
  same_differs h n = sym (here h ∙ rw (ne_eqb x y n) refl)

  -- they do not
  pub same_next : i < length a → x ≡ y → same a b ≡ same (drop (i + 1) a) (drop (i + 1) b)
  same_next h n = here h ∙ rw (eq-eqb x y n) refl

-- nothing differs
pub same_end : (a b : List ℕ) (i : ℕ) → length a ≡ length b → same a b ≡ same (drop i a) (drop i b) → length a ≤ i → true ≡ same a b
unfolding same
same_end a b i q e h =
    let h₂ : length b ≤ i = omega (arith, q) in
    sym (e ∙ ap₂ same (drop_of_length-le a h) (drop_of_length-le b h₂))
