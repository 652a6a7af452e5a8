-- The laws of "the first refusal wins": what a chain of early returns and a loop over rules need. Assumes nothing.
use borrow.Author.Tests.{lt-ltb, le-ltb, le-leb, lt-leb, eq-eqb, ne_eqb}
use mathlib.Core.Path.{◌≡◌, refl, sym, ap, ◌∙◌}
use mathlib.Core.Bool.{Bool, true, false}
use Prim.Native.Nat.{ℕ, zero, suc, ◌+◌, ◌-◌, ◌≤◌, ◌<◌}
use native.Mathlib.Numerals.{add-one}
use native.Mathlib.Omega.{arith}
use Rattle.refusal.specs.declared.Refusal.{Refusal}
use Rattle.refusal.specs.First.{refuse, accept, ◌if◌else◌, pick_zero, ◌or_else◌, first_of, unless, placed}

-- ---- a chain of early returns

pub if_true : {A : Type 0} (x y : A) → (x if true else y) ≡ x
unfolding ◌if◌else◌
if_true x y = refl

pub if_false : {A : Type 0} (x y : A) → (x if false else y) ≡ y
unfolding ◌if◌else◌
if_false x y = refl

pick_zero_law : (k : ℕ) (a b : Refusal) → k ≡ 0 → pick_zero k a b ≡ b
unfolding pick_zero
pick_zero_law zero a b h = refl
pick_zero_law (suc k) a b h = absurd (omega arith)

pick_suc : (k : ℕ) (a b : Refusal) → (k ≡ 0 → ⊥) → pick_zero k a b ≡ a
unfolding pick_zero
pick_suc zero a b h = absurd (h refl)
pick_suc (suc k) a b h = refl

-- no refusal: the next answer counts
pub or_else_none : (a b : Refusal) → a.number ≡ 0 → a or_else b ≡ b
unfolding ◌or_else◌
or_else_none a b h = pick_zero_law a.number a b h

-- a refusal: it is the answer
pub or_else_fault : (a b : Refusal) → (a.number ≡ 0 → ⊥) → a or_else b ≡ a
unfolding ◌or_else◌
or_else_fault a b h = pick_suc a.number a b h

-- a refusal that has no place is known by its number
pub known : (a : Refusal) {n : ℕ} → a.place ≡ 0 → a.number ≡ n → a ≡ refuse n
known a p e = λ i. record { number = e i; place = p i }

-- no rule without a place brings one in
pub if_plain : (k : ℕ) (b : Bool) (y : Refusal) → y.place ≡ 0 → (refuse k if b else y).place ≡ 0
unfolding ◌if◌else◌
if_plain k true y e = refl
if_plain k false y e = e

pub or_else_plain : (a b : Refusal) → a.place ≡ 0 → b.place ≡ 0 → (a or_else b).place ≡ 0
unfolding ◌or_else◌ pick_zero
or_else_plain a b e f = go a.number
  where
    go : (n : ℕ) → (pick_zero n a b).place ≡ 0
    go zero = f
    go (suc n) = e

-- nothing comes behind
pub or_else_accept : (a : Refusal) → a.place ≡ 0 → a or_else accept ≡ a
or_else_accept a p = go a.number refl
  where
    go : (n : ℕ) → a.number ≡ n → a or_else accept ≡ a
    go zero e = or_else_none a accept e ∙ sym (known a p e)
    go (suc n) e = or_else_fault a accept (λ z. omega arith)

-- a call gave the refusal r, which was tested: the definition that its contract cites is a refusal too, or none
pub call_none : (r a : Refusal) → r ≡ a → r.number ≡ 0 → a.number ≡ 0
call_none r a e h = sym (ap (λ (x : Refusal). x.number) e) ∙ h

pub call_fault : (r a : Refusal) → r ≡ a → (r.number ≡ 0 → ⊥) → a.number ≡ 0 → ⊥
call_fault r a e h z = h (ap (λ (x : Refusal). x.number) e ∙ z)

-- three in a row
pub or_else_assoc : (a b c : Refusal) → ((a or_else b) or_else c) ≡ (a or_else b or_else c)
or_else_assoc a b c = go a.number refl
  where
    go : (n : ℕ) → a.number ≡ n → ((a or_else b) or_else c) ≡ (a or_else b or_else c)
    go zero e = ap (λ (x : Refusal). x or_else c) (or_else_none a b e) ∙ sym (or_else_none a (b or_else c) e)
    go (suc n) e =
        let k : a.number ≡ 0 → ⊥ = λ z. omega arith in
        ap (λ (x : Refusal). x or_else c) (or_else_fault a b k) ∙ or_else_fault a c k ∙ sym (or_else_fault a (b or_else c) k)

-- the tests on a way turned into the answer's case
pub ruleset tests = (lt-ltb, le-ltb, le-leb, lt-leb, eq-eqb, ne_eqb, if_true, if_false, or_else_none, or_else_fault)

-- the tests are of refusals that calls gave
pub ruleset faults = (or_else_none, or_else_fault, call_none, call_fault)

-- ---- a loop over rules

-- what is left of a search at index i of n
abbrev pub rest : (ℕ → Refusal) → ℕ → ℕ → Refusal
rest f n i = first_of f i (n - i)

module _ (f : ℕ → Refusal) (n : ℕ) where
  first_end : (i : ℕ) → n ≤ i → rest f n i ≡ accept
  unfolding first_of
  first_end i h = ap (first_of f i) {x = n - i} {y = 0} (omega arith)

  first_step : (i : ℕ) → i < n → rest f n i ≡ f i or_else rest f n (i + 1)
  unfolding first_of
  first_step i h = ap (first_of f i) {x = n - i} {y = suc (n - (i + 1))} (omega arith) ∙ rw add-one

  -- the loop starts
  pub first_start : first_of f 0 n ≡ rest f n 0
  first_start = ap (first_of f 0) (omega arith)

-- at index i with the answer r: a return, a further turn, the end
pub first_stop : (f : ℕ → Refusal) (n i : ℕ) (r : Refusal) → first_of f 0 n ≡ rest f n i → i < n → r ≡ f i → (r.number ≡ 0 → ⊥) → r ≡ first_of f 0 n
first_stop f n i r e h q k =
    q ∙ sym (e ∙ first_step f n i h ∙ or_else_fault (f i) (rest f n (i + 1)) (λ z. k (ap (λ (x : Refusal). x.number) q ∙ z)))

pub first_go : (f : ℕ → Refusal) (n i : ℕ) (r : Refusal) → first_of f 0 n ≡ rest f n i → i < n → r ≡ f i → r.number ≡ 0 → first_of f 0 n ≡ rest f n (i + 1)
first_go f n i r e h q k =
    e ∙ first_step f n i h ∙ or_else_none (f i) (rest f n (i + 1)) (sym (ap (λ (x : Refusal). x.number) q) ∙ k)

pub first_none : (f : ℕ → Refusal) (n i : ℕ) → first_of f 0 n ≡ rest f n i → n ≤ i → accept ≡ first_of f 0 n
first_none f n i e h = sym (e ∙ first_end f n i h)

-- ---- what an answer that is no refusal says

pub if_zero : (k : ℕ) (b : Bool) (y : Refusal) → (refuse (suc k) if b else y).number ≡ 0 → (b ≡ false) × (y.number ≡ 0)
unfolding ◌if◌else◌
if_zero k true y e = absurd (omega arith)
if_zero k false y e = (refl, e)

pick_parts : (k : ℕ) (a b : Refusal) → a.number ≡ k → (pick_zero k a b).number ≡ 0 → (a.number ≡ 0) × (b.number ≡ 0)
unfolding pick_zero
pick_parts zero a b h e = (h, e)
pick_parts (suc k) a b h e = absurd (omega arith)

pub or_else_zero : (a b : Refusal) → (a or_else b).number ≡ 0 → (a.number ≡ 0) × (b.number ≡ 0)
unfolding ◌or_else◌
or_else_zero a b e = pick_parts a.number a b refl e

-- what refuses nothing is no refusal at all, if that holds of its end
pub or_else_accepts : (a b : Refusal) → (b.number ≡ 0 → b ≡ accept) → (a or_else b).number ≡ 0 → a or_else b ≡ accept
or_else_accepts a b h e = let x = or_else_zero a b e in or_else_none a b x.0 ∙ h x.1

pub if_accepts : (x : Refusal) (b : Bool) (y : Refusal) → (x.number ≡ 0 → x ≡ accept) → (y.number ≡ 0 → y ≡ accept) → (x if b else y).number ≡ 0 → (x if b else y) ≡ accept
unfolding ◌if◌else◌
if_accepts x true y h k e = h e
if_accepts x false y h k e = k e

pub rule_accepts : (k : ℕ) (b : Bool) (y : Refusal) → (y.number ≡ 0 → y ≡ accept) → (refuse k if b else y).number ≡ 0 → (refuse k if b else y) ≡ accept
rule_accepts k b y h e = if_accepts (refuse k) b y (λ z. ap refuse z) h e

pub first_accepts : (f : ℕ → Refusal) (i k : ℕ) → (first_of f i k).number ≡ 0 → first_of f i k ≡ accept
unfolding first_of
first_accepts f i zero e = refl
first_accepts f i (suc k) e = or_else_accepts (f i) (first_of f (suc i) k) (first_accepts f (suc i) k) e

first_zero : (f : ℕ → Refusal) (i k : ℕ) → (first_of f i k).number ≡ 0 → (j : ℕ) → j < k → (f (i + j)).number ≡ 0
unfolding first_of
first_zero f i zero e j h = absurd (omega arith)
first_zero f i (suc k) e zero h =
    ap (λ (x : ℕ). (f x).number) (omega arith) ∙ (or_else_zero (f i) (first_of f (suc i) k) e).0
first_zero f i (suc k) e (suc j) h =
    ap (λ (x : ℕ). (f x).number) (omega arith) ∙ first_zero f (suc i) k (or_else_zero (f i) (first_of f (suc i) k) e).1 j (omega arith)

-- none of n rules refuses
pub first_all : (f : ℕ → Refusal) (n : ℕ) → (first_of f 0 n).number ≡ 0 → (i : ℕ) → i < n → (f i).number ≡ 0
first_all f n e i h = ap (λ (x : ℕ). (f x).number) (omega arith) ∙ first_zero f 0 n e i h

-- and the other way round
pub first_accept : (f : ℕ → Refusal) (i k : ℕ) → ((j : ℕ) → i ≤ j → j < i + k → (f j).number ≡ 0) → first_of f i k ≡ accept
unfolding first_of
first_accept f i zero h = refl
first_accept f i (suc k) h =
    or_else_none (f i) (first_of f (suc i) k) (h i (omega arith) (omega arith))
    ∙ first_accept f (suc i) k (λ j l m. h j (omega arith) (omega arith))

-- all before index i refuse nothing, and that one does: it is the answer
first_found : (f : ℕ → Refusal) (i j k : ℕ) → j < k → ((m : ℕ) → i ≤ m → m < i + j → (f m).number ≡ 0) → ((f (i + j)).number ≡ 0 → ⊥) → first_of f i k ≡ f (i + j)
unfolding first_of
first_found f i j zero l h n = absurd (omega arith)
first_found f i zero (suc k) l h n =
    let e : i ≡ i + 0 = omega arith in
    or_else_fault (f i) (first_of f (suc i) k) (λ z. n (sym (ap (λ (m : ℕ). (f m).number) e) ∙ z)) ∙ ap f e
first_found f i (suc j) (suc k) l h n =
    let e : suc i + j ≡ i + suc j = omega arith in
    or_else_none (f i) (first_of f (suc i) k) (h i (omega arith) (omega arith))
    ∙ first_found f (suc i) j k (omega arith) (λ m a b. h m (omega arith) (omega arith)) (λ z. n (sym (ap (λ (m : ℕ). (f m).number) e) ∙ z))
    ∙ ap f e

pub first_at_law : (f : ℕ → Refusal) (n i : ℕ) {r : Refusal} → i < n → ((j : ℕ) → j < i → (f j).number ≡ 0) → f i ≡ r → (r.number ≡ 0 → ⊥) → first_of f 0 n ≡ r
first_at_law f n i l h e k =
    let z : 0 + i ≡ i = omega arith in
    first_found f 0 i n l (λ m a b. h m (omega arith)) (λ x. k (sym (ap (λ (q : Refusal). q.number) (ap f z ∙ e)) ∙ x)) ∙ ap f z ∙ e

-- rules that agree at each index have the same first refusal
pub first_same : (f g : ℕ → Refusal) (i k : ℕ) → ((j : ℕ) → i ≤ j → j < i + k → f j ≡ g j) → first_of f i k ≡ first_of g i k
unfolding first_of
first_same f g i zero h = refl
first_same f g i (suc k) h =
    λ z. h i (omega arith) (omega arith) z or_else first_same f g (suc i) k (λ j l m. h j (omega arith) (omega arith)) z

-- ---- a refusal at a place

pub placed_none : (r : Refusal) (k : ℕ) → r.number ≡ 0 → placed r k ≡ accept
unfolding placed
placed_none r k e = rw (e, placed)

pub placed_fault : (r : Refusal) (k : ℕ) → (r.number ≡ 0 → ⊥) → placed r k ≡ record { number = r.number; place = k }
unfolding placed
placed_fault r k h = go r.number h
  where
    go : (n : ℕ) → (n ≡ 0 → ⊥) → ◌≡◌ {A = Refusal} (elim n [ zero ↦ accept | suc j ↦ record { number = suc j; place = k } ]) record { number = n; place = k }
    go zero h = absurd (h refl)
    go (suc n) h = refl

-- its number stays
pub placed_number : (r : Refusal) (k : ℕ) → (placed r k).number ≡ r.number
unfolding placed
placed_number r k = go r.number
  where
    go : (n : ℕ) → ◌≡◌ {A = ℕ} (elim n as (λ m. Refusal) [ zero ↦ accept | suc j ↦ record { number = suc j; place = k } ]).number n
    go zero = refl
    go (suc n) = refl

-- ---- an answer

-- no refusal: what comes next is the answer
pub unless_none : {A : Type 0} (r : Refusal) (refused : Refusal → A) (x : A) → r.number ≡ 0 → unless r refused x ≡ x
unfolding unless
unless_none r refused x e = rw (e, unless)

-- a refusal: what it makes is the answer
pub unless_fault : {A : Type 0} (r : Refusal) (refused : Refusal → A) (x : A) → (r.number ≡ 0 → ⊥) → unless r refused x ≡ refused r
unfolding unless
unless_fault {A} r refused x h = go r.number h
  where
    go : (n : ℕ) → (n ≡ 0 → ⊥) → ◌≡◌ {A = A} (elim n [ zero ↦ x | suc e ↦ refused r ]) (refused r)
    go zero k = absurd (k refl)
    go (suc n) k = refl
