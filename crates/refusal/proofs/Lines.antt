-- The line that the first refusal names, and document 01's number for it, rule by rule. Assumes nothing.
use borrow.Author.Tests.{eqb-true}
use mathlib.Core.Path.{◌≡◌, refl, sym, ap, ◌∙◌}
use mathlib.Core.Bool.{Bool, true, false, ◌||◌, true≢false}
use Prim.Native.Nat.{ℕ, zero, suc, ◌+◌, ◌≤◌, ◌<◌}
use native.Mathlib.Omega.{arith}
use lib.Dec.{eqb}
use Rattle.refusal.specs.declared.Refusal.{Refusal}
use Rattle.refusal.specs.First.{refuse, accept, ◌if◌else◌, ◌or_else◌, first_of, placed}
use Rattle.refusal.specs.Lines.{of_entry, has_place, old, RightPlace, Names}
use Rattle.refusal.proofs.First.{or_else_none, or_else_fault, placed_fault, placed_number}

-- ---- what holds of each rule's refusal, where that rule is the one that decides, holds of the answer

module _ (P : Refusal → Type 0) where
  pub if_by : (x : Refusal) (b : Bool) (y : Refusal) → (b ≡ true → P x) → (b ≡ false → P y) → P (x if b else y)
  unfolding ◌if◌else◌
  if_by x true y h k = h refl
  if_by x false y h k = k refl

  pub or_else_by : (a b : Refusal) → ((a.number ≡ 0 → ⊥) → P a) → (a.number ≡ 0 → P b) → P (a or_else b)
  or_else_by a b h k = go a.number refl
    where
      go : (n : ℕ) → a.number ≡ n → P (a or_else b)
      go zero e = rw (or_else_none a b e) (k e)
      go (suc n) e = rw (or_else_fault a b (λ z. omega arith)) (h (λ z. omega arith))

-- ---- the place

-- a refusal without a place: its number is none that has one
abbrev pub Nowhere : Refusal → Type 0
Nowhere r = has_place r.number ≡ false

pub if_nowhere : (k : ℕ) (b : Bool) (y : Refusal) → has_place k ≡ false → Nowhere y → Nowhere (refuse k if b else y)
if_nowhere k b y h l = if_by Nowhere (refuse k) b y (λ e. h) (λ e. l)

pub or_else_nowhere : (a b : Refusal) → Nowhere a → Nowhere b → Nowhere (a or_else b)
or_else_nowhere a b h l = or_else_by Nowhere a b (λ e. h) (λ e. l)

-- a refusal that is of an entry, if it is one
abbrev pub EntryOnly : Refusal → Type 0
EntryOnly r = (r.number ≡ 0 → ⊥) → of_entry r.number ≡ true

pub accept_entry : EntryOnly accept
accept_entry h = absurd (h refl)

pub if_entry : (k : ℕ) (b : Bool) (y : Refusal) → of_entry k ≡ true → EntryOnly y → EntryOnly (refuse k if b else y)
if_entry k b y h l = if_by EntryOnly (refuse k) b y (λ e z. h) (λ e. l)

pub or_else_entry : (a b : Refusal) → EntryOnly a → EntryOnly b → EntryOnly (a or_else b)
or_else_entry a b h l = or_else_by EntryOnly a b (λ e. h) (λ e. l)

pub right_nowhere : (r : Refusal) → r.place ≡ 0 → has_place r.number ≡ false → RightPlace r
right_nowhere r e h = (λ z. h, λ z. e)

pub right_there : (r : Refusal) {i : ℕ} → r.place ≡ suc i → has_place r.number ≡ true → RightPlace r
right_there r e h = (λ z. absurd (omega arith), λ z. absurd (true≢false (sym h ∙ z)))

pub entry_place : (n : ℕ) → of_entry n ≡ true → has_place n ≡ true
unfolding has_place
entry_place n e = go (eqb n 3)
  where
    go : (b : Bool) → (b || of_entry n) ≡ true
    go true = refl
    go false = e

-- ---- the line

-- the first of k rules from rule i on that refuses, and its refusal r
record Found (f : ℕ → Refusal) (i k : ℕ) (r : Refusal) : Type 0 where
  at : ℕ
  within : at < k
  is : f (i + at) ≡ r
  none : (j : ℕ) → j < at → (f (i + j)).number ≡ 0

found_here : (f : ℕ → Refusal) (i k : ℕ) → Found f i (suc k) (f i)
found_here f i k = record { at = 0; within = omega arith; is = ap f (omega arith); none = λ j l. absurd (omega arith) }

found_next : (f : ℕ → Refusal) (i k : ℕ) (r : Refusal) → (f i).number ≡ 0 → Found f (suc i) k r → Found f i (suc k) r
found_next f i k r e x = record { at = suc x.at; within = omega (arith, x.within); is = ap f (omega arith) ∙ x.is; none = go }
  where
    go : (j : ℕ) → j < suc x.at → (f (i + j)).number ≡ 0
    go zero l = ap (λ (y : ℕ). (f y).number) (omega arith) ∙ e
    go (suc j) l = ap (λ (y : ℕ). (f y).number) (omega arith) ∙ x.none j (omega arith)

found : (f : ℕ → Refusal) (i k : ℕ) → ((first_of f i k).number ≡ 0 → ⊥) → Found f i k (first_of f i k)
unfolding first_of
found f i zero h = absurd (h refl)
found f i (suc k) h = go (f i).number refl (found f (suc i) k)
  where
    go : (n : ℕ) → (f i).number ≡ n → (((first_of f (suc i) k).number ≡ 0 → ⊥) → Found f (suc i) k (first_of f (suc i) k)) → Found f i (suc k) (f i or_else first_of f (suc i) k)
    go zero e x =
        let q : f i or_else first_of f (suc i) k ≡ first_of f (suc i) k = or_else_none _ _ e in
        rw q (found_next f i k _ e (x (rw q at h)))
    go (suc n) e x = rw (or_else_fault (f i) (first_of f (suc i) k) (λ z. omega arith)) (found_here f i k)

-- each of n lines has its rule, and its refusal has its place: the first refusal is that of the line which it names, and no line before it has any
pub first_names : (rule : ℕ → Refusal) (n : ℕ) (r : Refusal) → r ≡ first_of (λ i. placed (rule i) (suc i)) 0 n → (r.number ≡ 0 → ⊥)
    → Names (λ i. (rule i).number ≡ r.number) (λ i. (rule i).number ≡ 0) n r.place
first_names rule n r e h =
    let x = found (λ i. placed (rule i) (suc i)) 0 n (rw e at h) in
    let q : placed (rule x.at) (suc x.at) ≡ r = ap (λ (i : ℕ). placed (rule i) (suc i)) (omega arith) ∙ x.is ∙ sym e in
    let k : (rule x.at).number ≡ r.number = sym (placed_number (rule x.at) (suc x.at)) ∙ ap (λ (y : Refusal). y.number) q in
    record {
      named = x.at;
      counted_from_1 = ap (λ (y : Refusal). y.place) (sym q ∙ placed_fault (rule x.at) (suc x.at) (λ z. h (sym k ∙ z)));
      among = x.within;
      is_bad = k;
      good_before = λ j l. sym (placed_number (rule j) (suc j)) ∙ ap (λ (i : ℕ). (placed (rule i) (suc i)).number) (omega arith) ∙ x.none j l;
    }

-- said of the lines in other words
pub names_as : {Bad Good Bad' Good' : ℕ → Type 0} {n m place : ℕ} → Names Bad Good n place → n ≤ m → ((i : ℕ) → Bad i → Bad' i) → ((i : ℕ) → Good i → Good' i)
    → Names Bad' Good' m place
names_as x l f g = record {
  named = x.named;
  counted_from_1 = x.counted_from_1;
  among = omega (arith, x.among);
  is_bad = f x.named x.is_bad;
  good_before = λ j k. g j (x.good_before j k);
}

-- ---- document 01's number

-- 0 stays 0, and nothing else becomes 0
old_zero : (n : ℕ) → old n ≡ 0 → n ≡ 0
unfolding old
old_zero n = go (eqb n 44)
  where
    go : (b : Bool) → ◌≡◌ {A = ℕ} (elim b [ true ↦ 5 | false ↦ n ]) 0 → n ≡ 0
    go true e = absurd (omega arith)
    go false e = e

-- a number that no entry has is the same in document 01
pub old_same : (n : ℕ) → of_entry n ≡ false → old n ≡ n
unfolding old of_entry
old_same n h = go (eqb n 44) refl
  where
    go : (b : Bool) → eqb n 44 ≡ b → ◌≡◌ {A = ℕ} (elim b [ true ↦ 5 | false ↦ n ]) n
    go true e = absurd (true≢false (sym (ap of_entry (eqb-true n 44 e)) ∙ h))
    go false e = refl

abbrev pub Renumbered : (a b : Refusal) → Type 0
Renumbered a b = a.number ≡ old b.number

pub if_old : (x y x' y' : Refusal) (b : Bool) → Renumbered x x' → Renumbered y y' → Renumbered (x if b else y) (x' if b else y')
unfolding ◌if◌else◌
if_old x y x' y' true h k = h
if_old x y x' y' false h k = k

pub or_else_old : (a b a' b' : Refusal) → Renumbered a a' → Renumbered b b' → Renumbered (a or_else b) (a' or_else b')
unfolding old
or_else_old a b a' b' h k = go a'.number refl
  where
    go : (n : ℕ) → a'.number ≡ n → Renumbered (a or_else b) (a' or_else b')
    go zero e = rw (or_else_none a' b' e, or_else_none a b (h ∙ ap old e)) k
    go (suc n) e = rw (or_else_fault a' b' (λ z. omega arith), or_else_fault a b (λ z. absurd (omega (arith, old_zero a'.number (sym h ∙ z))))) h

pub first_old : (f g : ℕ → Refusal) (i k : ℕ) → ((j : ℕ) → i ≤ j → j < i + k → Renumbered (f j) (g j)) → Renumbered (first_of f i k) (first_of g i k)
unfolding first_of old
first_old f g i zero h = refl
first_old f g i (suc k) h = or_else_old _ _ _ _ (h i (omega arith) (omega arith)) (first_old f g (suc i) k (λ j l m. h j (omega arith) (omega arith)))

pub same_old : (r : Refusal) → of_entry r.number ≡ false → Renumbered r r
same_old r h = sym (old_same r.number h)

pub nowhere_old : (r : Refusal) → Nowhere r → Renumbered r r
unfolding has_place
nowhere_old r h = same_old r (go (eqb r.number 3) h)
  where
    go : (b : Bool) → (b || of_entry r.number) ≡ false → of_entry r.number ≡ false
    go true e = absurd (true≢false e)
    go false e = e
