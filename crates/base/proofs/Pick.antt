-- A loop that looks for the first element of a list that passes a test. Assumes nothing.
use mathlib.Core.Path.{◌≡◌, refl, sym, ap, ◌∙◌}
use mathlib.Core.Bool.{Bool, true, false}
use mathlib.Core.List.{List, [], ◌∷◌}
use Prim.Native.Nat.{ℕ, suc, ◌+◌, ◌≤◌, ◌<◌}
use native.Mathlib.Numerals.{add-one}
use lib.ListN.{length, get_or, drop, drop_of_length-le}
use lib.Seq.{drop-cons}
use Rattle.base.specs.Lists.{All}
use Rattle.base.specs.Pick.{pick}

module _ {A B : Type 0} (test : A → Bool) (found : A → B) (none : B) where
  pub pick_here : (x : A) (xs : List A) → test x ≡ true → pick test found none (x ∷ xs) ≡ found x
  unfolding pick
  pick_here x xs e = rw (e, pick)

  pub pick_past : (x : A) (xs : List A) → test x ≡ false → pick test found none (x ∷ xs) ≡ pick test found none xs
  unfolding pick
  pick_past x xs e = rw (e, pick)

  -- no element passes
  pub pick_never : (xs : List A) → All (λ (x : A). test x ≡ false) xs → pick test found none xs ≡ none
  unfolding pick
  pick_never [] h = refl
  pick_never (x ∷ xs) h = pick_past x xs h.0 ∙ pick_never xs h.1

  -- a walk from element to element, where w is what it looks for in those that are left, xs, the first of which is x: it is found, the walk goes on, the end
  module _ (w : B) (xs : List A) (e : w ≡ pick test found none xs) where
    pub walk_found : (x : A) (ys : List A) (v : B) → xs ≡ x ∷ ys → test x ≡ true → v ≡ found x → v ≡ w
    walk_found x ys v h y g = g ∙ sym (e ∙ ap (pick test found none) h ∙ pick_here x ys y)

    pub walk_next : (x : A) (ys : List A) → xs ≡ x ∷ ys → test x ≡ false → w ≡ pick test found none ys
    walk_next x ys h n = e ∙ ap (pick test found none) h ∙ pick_past x ys n

    pub walk_none : xs ≡ [] → none ≡ w
    unfolding pick
    walk_none h = sym (e ∙ ap (pick test found none) h)

  -- a walk over a table t by index: what is left of it at index i
  module _ (t : List A) where
    abbrev pub left : ℕ → B
    left i = pick test found none (drop i t)

    -- with the element x there: it is found, the walk goes on, the end
    pub pick_found : (i : ℕ) (d x : A) (v : B) → pick test found none t ≡ left i → i < length t → x ≡ get_or t i d → test x ≡ true → v ≡ found x
        → v ≡ pick test found none t
    pick_found i d x v e h q y g =
        g ∙ sym (e ∙ ap (pick test found none) (drop-cons t i d h) ∙ rw (← q) (pick_here x (drop (suc i) t) y))

    pub pick_next : (i : ℕ) (d x : A) → pick test found none t ≡ left i → i < length t → x ≡ get_or t i d → test x ≡ false
        → pick test found none t ≡ left (i + 1)
    pick_next i d x e h q n =
        e ∙ ap (pick test found none) (drop-cons t i d h) ∙ rw (← q, add-one) (pick_past x (drop (suc i) t) n)

    pub pick_none : (i : ℕ) → pick test found none t ≡ left i → length t ≤ i → none ≡ pick test found none t
    unfolding pick
    pick_none i e h = sym (e ∙ ap (pick test found none) (drop_of_length-le t h))
