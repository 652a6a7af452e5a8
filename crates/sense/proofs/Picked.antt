-- A search that ends with a kind or with one refusal. Assumes nothing.
use mathlib.Core.Path.{◌≡◌, refl, sym, ap, ◌∙◌}
use mathlib.Core.Bool.{Bool, true, false}
use mathlib.Core.List.{List, [], ◌∷◌}
use Prim.Native.Nat.{ℕ}
use native.Mathlib.Omega.{arith}
use lib.ListN.{length}
use Rattle.refusal.specs.declared.Refusal.{Refusal}
use Rattle.refusal.specs.First.{refuse}
use Rattle.base.specs.Lists.{All}
use Rattle.base.specs.Pick.{pick}
use Rattle.base.proofs.Pick.{pick_here, pick_past}
use Rattle.sense.specs.declared.Kind.{Kind}
use Rattle.sense.specs.declared.Sense.{Sense}
use Rattle.sense.specs.declared.Sense.TheVariants.{Means, Refused}
use Rattle.sense.specs.Sense.{Heard, heard}

-- where nothing is said of the elements
pub anything : {A : Type 0} (xs : List A) → All (λ (x : A). Unit {0}) xs
anything [] = tt
anything (x ∷ xs) = (tt, anything xs)

module _ {A : Type 0} (test : A → Bool) (kind : A → Kind) (none : ℕ) where
  -- what is found among xs
  abbrev among : List A → Heard
  among xs = pick test (λ x. heard (Means (kind x))) (heard (Refused (refuse none))) xs

  -- it is refused with one number alone
  pub picked_refused : (f : Refusal) (xs : List A) → among xs ≡ heard (Refused f) → f ≡ refuse none
  unfolding pick
  picked_refused f [] e = ap (λ (s : Heard). s.refusal) (sym e)
  picked_refused f (x ∷ xs) e = go (test x) refl (picked_refused f xs)
    where
      go : (t : Bool) → test x ≡ t → (among xs ≡ heard (Refused f) → f ≡ refuse none) → f ≡ refuse none
      go true h more = absurd (omega (arith, ap (λ (s : Heard). length s.kind) (sym e ∙ pick_here test _ _ x xs h)))
      go false h more = more (sym (pick_past test _ _ x xs h) ∙ e)

  -- where it is refused, with that number
  pub picked_none : (xs : List A) → ((among xs).refusal.number ≡ 0 → ⊥) → among xs ≡ heard (Refused (refuse none))
  unfolding pick
  picked_none [] h = refl
  picked_none (x ∷ xs) h = go (test x) refl (picked_none xs)
    where
      go : (t : Bool) → test x ≡ t → (((among xs).refusal.number ≡ 0 → ⊥) → among xs ≡ heard (Refused (refuse none))) → among (x ∷ xs) ≡ heard (Refused (refuse none))
      go true e more = absurd (h (ap (λ (s : Heard). s.refusal.number) (pick_here test _ _ x xs e)))
      go false e more =
          let past = pick_past test (λ x. heard (Means (kind x))) (heard (Refused (refuse none))) x xs e in
          past ∙ more (λ z. h (ap (λ (s : Heard). s.refusal.number) past ∙ z))

  -- an element passes the test, P holds of it, and its kind is the answer
  pub record Found (P : A → Type 0) (xs : List A) : Type 0 where
    pub which : A
    pub holds : P which
    pub passes : test which ≡ true
    pub is : among xs ≡ heard (Means (kind which))

  -- where it is not refused and P holds of every element, there is one
  pub picked_found : (P : A → Type 0) → (none ≡ 0 → ⊥) → (xs : List A) → All P xs → (among xs).refusal.number ≡ 0 → Found P xs
  unfolding pick
  picked_found P k [] p e = absurd (k e)
  picked_found P k (x ∷ xs) p e = go (test x) refl (picked_found P k xs p.1)
    where
      go : (t : Bool) → test x ≡ t → ((among xs).refusal.number ≡ 0 → Found P xs) → Found P (x ∷ xs)
      go true h more = record { which = x; holds = p.0; passes = h; is = pick_here test _ _ x xs h }
      go false h more =
          let past = pick_past test (λ x. heard (Means (kind x))) (heard (Refused (refuse none))) x xs h in
          let f = more (ap (λ (s : Heard). s.refusal.number) (sym past) ∙ e) in
          record { which = f.which; holds = f.holds; passes = f.passes; is = past ∙ f.is }

-- an answer is known by what it says
pub heard_injective : (a b : Sense) → heard a ≡ heard b → a ≡ b
heard_injective (Means j) (Means k) e =
    let m : (j ∷ []) ≡ (k ∷ []) = ap (λ (s : Heard). s.kind) e in
    let h : j ≡ k = cc in
    ap Means h
heard_injective (Means j) (Refused q) e = absurd (omega (arith, ap (λ (s : Heard). length s.kind) e))
heard_injective (Refused r) (Means k) e = absurd (omega (arith, ap (λ (s : Heard). length s.kind) e))
heard_injective (Refused r) (Refused q) e = ap Refused (ap (λ (s : Heard). s.refusal) e)
