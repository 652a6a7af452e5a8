-- Undoing the changes between two byte strings gives the first one again; they ascend, and there is one for each byte that differs. Assumes nothing.
use borrow.Author.Tests.{eqb-true, eqb-false, eq-eqb}
use mathlib.Core.Path.{◌≡◌, refl, sym, ap, ◌∙◌}
use mathlib.Core.Bool.{Bool, true, false}
use mathlib.Core.List.{List, [], ◌∷◌, ◌++◌, append_assoc}
use Prim.Native.Nat.{ℕ, zero, suc, ◌+◌, ◌≤◌, ◌<◌}
use native.Mathlib.Nat.{add-zero}
use native.Mathlib.Omega.{arith}
use lib.Dec.{eqb}
use lib.ListN.{length, get_or, set, length-append}
use lib.Seq.{set_at, append_snoc}
use Rattle.base.specs.Lists.{All}
use Rattle.base.specs.Pick.{pick, some}
use Rattle.base.proofs.Pick.{pick_here, pick_past}
use Rattle.base.proofs.Lists.{all_map, all_append}
use Rattle.mend.specs.Changes.{Change, if_other, change_at, changes, undo, note_of, notes}

-- ---- one place

module _ (place a b : ℕ) where
  pub change_none : a ≡ b → change_at place a b ≡ []
  unfolding change_at
  change_none e = ap (λ (t : Bool). if_other t (record { place = place; old = a; new = b })) (eq-eqb a b e)

  pub change_some : (a ≡ b → ⊥) → change_at place a b ≡ record { place = place; old = a; new = b } ∷ []
  unfolding change_at
  change_some h = go (eqb a b) refl
    where
      go : (t : Bool) → eqb a b ≡ t → if_other (eqb a b) (record { place = place; old = a; new = b }) ≡ record { place = place; old = a; new = b } ∷ []
      go true e = absurd (h (eqb-true a b e))
      go false e = ap (λ (t : Bool). if_other t (record { place = place; old = a; new = b })) e

-- what holds of a place without a change, and of one with it
change_cases : (P : List Change → Type 0) (place a b : ℕ) → (a ≡ b → P []) → ((a ≡ b → ⊥) → P (record { place = place; old = a; new = b } ∷ [])) → P (change_at place a b)
change_cases P place a b same other = go (eqb a b) refl
  where
    go : (t : Bool) → eqb a b ≡ t → P (change_at place a b)
    go true e = rw (change_none place a b (eqb-true a b e)) (same (eqb-true a b e))
    go false e = rw (change_some place a b (eqb-false a b e)) (other (eqb-false a b e))

-- ---- undoing

undo_append : (cs es : List Change) (s : List ℕ) → undo (cs ++ es) s ≡ undo es (undo cs s)
unfolding undo
undo_append [] es s = refl
undo_append (c ∷ cs) es s = undo_append cs es (set s c.place c.old)

undo_one : (place a b : ℕ) (front rest : List ℕ) → length front ≡ place → undo (change_at place a b) (front ++ b ∷ rest) ≡ front ++ a ∷ rest
unfolding undo
undo_one place a b front rest l =
    change_cases (λ cs. undo cs (front ++ b ∷ rest) ≡ front ++ a ∷ rest) place a b
    (λ e. ap (λ (x : ℕ). front ++ x ∷ rest) (sym e))
    (λ h. set_at front b rest a place l)

pub undo_changes : (place : ℕ) (front old new : List ℕ) → length front ≡ place → length old ≡ length new → undo (changes place old new) (front ++ new) ≡ front ++ old
unfolding changes undo
undo_changes place front [] [] l m = refl
undo_changes place front [] (b ∷ new) l m = absurd (omega arith)
undo_changes place front (a ∷ old) [] l m = absurd (omega arith)
undo_changes place front (a ∷ old) (b ∷ new) l m =
    undo_append (change_at place a b) (changes (suc place) old new) (front ++ b ∷ new)
    ∙ ap (undo (changes (suc place) old new)) (undo_one place a b front new l ∙ sym (append_snoc front a new))
    ∙ undo_changes (suc place) (front ++ (a ∷ [])) old new (omega (arith, length-append front (a ∷ []))) (omega arith)
    ∙ append_snoc front a old

-- ---- in parts

pub changes_append : (place : ℕ) (old new old' new' : List ℕ) → length old ≡ length new
    → changes place (old ++ old') (new ++ new') ≡ changes place old new ++ changes (place + length old) old' new'
unfolding changes
changes_append place [] [] old' new' m = ap (λ (k : ℕ). changes k old' new') (sym (add-zero place))
changes_append place [] (b ∷ new) old' new' m = absurd (omega arith)
changes_append place (a ∷ old) [] old' new' m = absurd (omega arith)
changes_append place (a ∷ old) (b ∷ new) old' new' m =
    let e : suc place + length old ≡ place + suc (length old) = omega arith in
    ap (λ (cs : List Change). change_at place a b ++ cs)
    (changes_append (suc place) old new old' new' (omega arith) ∙ ap (λ (k : ℕ). changes (suc place) old new ++ changes k old' new') e)
    ∙ sym (append_assoc (change_at place a b) (changes (suc place) old new) (changes (place + suc (length old)) old' new'))

pub changes_same : (place : ℕ) (s : List ℕ) → changes place s s ≡ []
unfolding changes
changes_same place [] = refl
changes_same place (a ∷ s) = rw (change_none place a a refl) (changes_same (suc place) s)

-- ---- they ascend, and each is of a byte that differs

-- each place is lo or more, and above the one before
abbrev pub Rising : (lo : ℕ) → List Change → Type 0
Rising lo [] = Unit {0}
Rising lo (c ∷ cs) = (lo ≤ c.place) × Rising (suc c.place) cs

rising_down : (lo hi : ℕ) (cs : List Change) → lo ≤ hi → Rising hi cs → Rising lo cs
rising_down lo hi [] l r = tt
rising_down lo hi (c ∷ cs) l r = (omega (arith, r.0), r.1)

pub changes_rise : (place : ℕ) (old new : List ℕ) → Rising place (changes place old new)
unfolding changes
changes_rise place [] new = tt
changes_rise place (a ∷ old) [] = tt
changes_rise place (a ∷ old) (b ∷ new) =
    let more = changes_rise (suc place) old new in
    change_cases (λ cs. Rising place (cs ++ changes (suc place) old new)) place a b
    (λ e. rising_down place (suc place) (changes (suc place) old new) (omega arith) more)
    (λ h. (omega arith, more))

-- a change says what stood and stands at its place, and these differ
pub record Says (place : ℕ) (old new : List ℕ) (c : Change) : Type 0 where
  pub from : place ≤ c.place
  pub was : (k : ℕ) → c.place ≡ place + k → c.old ≡ get_or old k 0
  pub is : (k : ℕ) → c.place ≡ place + k → c.new ≡ get_or new k 0
  pub differ : c.old ≡ c.new → ⊥

says_here : (place a b : ℕ) (old new : List ℕ) → (a ≡ b → ⊥) → Says place (a ∷ old) (b ∷ new) (record { place = place; old = a; new = b })
says_here place a b old new h = record { from = omega arith; was = was; is = is; differ = h }
  where
    was : (k : ℕ) → place ≡ place + k → a ≡ get_or (a ∷ old) k 0
    was zero e = refl
    was (suc k) e = absurd (omega arith)

    is : (k : ℕ) → place ≡ place + k → b ≡ get_or (b ∷ new) k 0
    is zero e = refl
    is (suc k) e = absurd (omega arith)

says_later : (place a b : ℕ) (old new : List ℕ) (c : Change) → Says (suc place) old new c → Says place (a ∷ old) (b ∷ new) c
says_later place a b old new c s = record { from = omega (arith, s.from); was = was; is = is; differ = s.differ }
  where
    was : (k : ℕ) → c.place ≡ place + k → c.old ≡ get_or (a ∷ old) k 0
    was zero e = absurd (omega (arith, s.from))
    was (suc k) e = s.was k (omega arith)

    is : (k : ℕ) → c.place ≡ place + k → c.new ≡ get_or (b ∷ new) k 0
    is zero e = absurd (omega (arith, s.from))
    is (suc k) e = s.is k (omega arith)

pub changes_say : (place : ℕ) (old new : List ℕ) → All (Says place old new) (changes place old new)
unfolding changes
changes_say place [] new = tt
changes_say place (a ∷ old) [] = tt
changes_say place (a ∷ old) (b ∷ new) =
    all_append (Says place (a ∷ old) (b ∷ new)) (change_at place a b) (changes (suc place) old new)
    (change_cases (λ cs. All (Says place (a ∷ old) (b ∷ new)) cs) place a b (λ e. tt) (λ h. (says_here place a b old new h, tt)))
    (all_map (Says (suc place) old new) (Says place (a ∷ old) (b ∷ new)) (says_later place a b old new) (changes (suc place) old new) (changes_say (suc place) old new))

-- and each byte that differs has one
abbrev pub at : ℕ → Change → Bool
at place c = eqb c.place place

some_right : (t : Change → Bool) (cs es : List Change) → some t es ≡ true → some t (cs ++ es) ≡ true
unfolding pick
some_right t [] es h = h
some_right t (c ∷ cs) es h = go (t c) refl (some_right t cs es h)
  where
    go : (b : Bool) → t c ≡ b → some t (cs ++ es) ≡ true → some t (c ∷ (cs ++ es)) ≡ true
    go true e more = pick_here t (λ x. true) false c (cs ++ es) e
    go false e more = pick_past t (λ x. true) false c (cs ++ es) e ∙ more

pub changes_all : (place : ℕ) (old new : List ℕ) (k : ℕ) → length old ≡ length new → k < length old → (get_or old k 0 ≡ get_or new k 0 → ⊥)
    → some (at (place + k)) (changes place old new) ≡ true
unfolding changes
changes_all place [] new k m l h = absurd (omega arith)
changes_all place (a ∷ old) [] k m l h = absurd (omega arith)
changes_all place (a ∷ old) (b ∷ new) zero m l h =
    rw (change_some place a b h)
    (pick_here (at (place + 0)) (λ x. true) false (record { place = place; old = a; new = b }) (changes (suc place) old new) (eq-eqb place (place + 0) (omega arith)))
changes_all place (a ∷ old) (b ∷ new) (suc k) m l h =
    let e : suc place + k ≡ place + suc k = omega arith in
    some_right (at (place + suc k)) (change_at place a b) (changes (suc place) old new)
    (rw (← e) (changes_all (suc place) old new k (omega arith) (omega arith) h))

-- ---- as numbers

pub notes_append : (cs es : List Change) → notes (cs ++ es) ≡ notes cs ++ notes es
unfolding notes
notes_append [] es = refl
notes_append (c ∷ cs) es = ap (λ (ns : List ℕ). note_of c ∷ ns) (notes_append cs es)

pub length_notes : (cs : List Change) → length (notes cs) ≡ length cs
unfolding notes
length_notes [] = refl
length_notes (c ∷ cs) = ap suc (length_notes cs)

-- how many there are does not depend on where the first byte stands
pub count_anywhere : (p q : ℕ) (old new : List ℕ) → length (changes p old new) ≡ length (changes q old new)
unfolding changes
count_anywhere p q [] new = refl
count_anywhere p q (a ∷ old) [] = refl
count_anywhere p q (a ∷ old) (b ∷ new) = go (eqb a b) refl (count_anywhere (suc p) (suc q) old new)
  where
    go : (t : Bool) → eqb a b ≡ t → length (changes (suc p) old new) ≡ length (changes (suc q) old new)
        → length (change_at p a b ++ changes (suc p) old new) ≡ length (change_at q a b ++ changes (suc q) old new)
    go true e more = rw (change_none p a b (eqb-true a b e), change_none q a b (eqb-true a b e)) more
    go false e more = rw (change_some p a b (eqb-false a b e), change_some q a b (eqb-false a b e)) (ap suc more)
