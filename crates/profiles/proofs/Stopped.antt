-- The place of a record's refusal stops at 65,535; in a list of so many records or fewer it is the record's own. Assumes nothing.
use mathlib.Core.Path.{◌≡◌, refl, sym, ap, ◌∙◌}
use mathlib.Core.List.{List}
use Prim.Native.Nat.{ℕ, zero, suc, ◌+◌, ◌/◌, ◌≤◌, ◌<◌, min}
use native.Mathlib.Omega.{arith}
use lib.ListN.{length}
use Rattle.refusal.specs.declared.Refusal.{Refusal}
use Rattle.refusal.specs.First.{accept, ◌or_else◌, first_of, placed}
use Rattle.refusal.proofs.First.{or_else_none, or_else_fault, rest, first_stop, first_go, first_none, placed_none, placed_fault}
use Rattle.profiles.specs.Profiles.{record_fault, records_fault, stopped}

-- a refusal at a place
pub stopped_placed : (r : Refusal) (k : ℕ) → placed r (min k 65535) ≡ stopped (placed r k)
unfolding stopped
stopped_placed r k = go r.number refl
  where
    go : (n : ℕ) → r.number ≡ n → placed r (min k 65535) ≡ stopped (placed r k)
    go zero e = placed_none r (min k 65535) e ∙ sym (ap stopped (placed_none r k e))
    go (suc n) e = placed_fault r (min k 65535) (λ z. omega arith) ∙ sym (ap stopped (placed_fault r k (λ z. omega arith)))

-- the first of some
pub stopped_first : (f : ℕ → Refusal) (i k : ℕ) → first_of (λ j. stopped (f j)) i k ≡ stopped (first_of f i k)
unfolding stopped first_of
stopped_first f i zero = refl
stopped_first f i (suc k) = go (f i).number refl (stopped_first f (suc i) k)
  where
    go : (n : ℕ) → (f i).number ≡ n → first_of (λ j. stopped (f j)) (suc i) k ≡ stopped (first_of f (suc i) k)
        → (stopped (f i) or_else first_of (λ j. stopped (f j)) (suc i) k) ≡ stopped (f i or_else first_of f (suc i) k)
    go zero e h = or_else_none _ _ e ∙ h ∙ sym (ap stopped (or_else_none _ _ e))
    go (suc n) e h = or_else_fault _ _ (λ z. omega arith) ∙ sym (ap stopped (or_else_fault _ _ (λ z. omega arith)))

-- a walk over the records at index i of n: a return, a further turn, the end
abbrev pub at : List ℕ → ℕ → Refusal
at b i = stopped (record_fault b i)

module _ (b : List ℕ) (n i : ℕ) (e : first_of (at b) 0 n ≡ rest (at b) n i) where
  pub records_stop : (r : Refusal) → i < n → r ≡ at b i → (r.number ≡ 0 → ⊥) → r ≡ stopped (first_of (record_fault b) 0 n)
  records_stop r h q k = first_stop (at b) n i r e h q k ∙ stopped_first (record_fault b) 0 n

  pub records_go : (r : Refusal) → i < n → r ≡ at b i → r.number ≡ 0 → first_of (at b) 0 n ≡ rest (at b) n (i + 1)
  records_go r h q k = first_go (at b) n i r e h q k

  pub records_none : n ≤ i → accept ≡ stopped (first_of (record_fault b) 0 n)
  records_none h = first_none (at b) n i e h ∙ stopped_first (record_fault b) 0 n

-- ---- no place is behind the last record

placed_most : (r : Refusal) (k : ℕ) → (placed r k).place ≤ k
placed_most r k = go r.number refl
  where
    go : (n : ℕ) → r.number ≡ n → (placed r k).place ≤ k
    go zero e = rw (placed_none r k e) (omega arith)
    go (suc n) e = rw (placed_fault r k (λ z. omega arith)) (omega arith)

first_most : (f : ℕ → Refusal) → ((i : ℕ) → (f i).place ≤ suc i) → (i k : ℕ) → (first_of f i k).place ≤ i + k
unfolding first_of
first_most f h i zero = omega arith
first_most f h i (suc k) = go (f i).number refl (first_most f h (suc i) k)
  where
    go : (n : ℕ) → (f i).number ≡ n → (first_of f (suc i) k).place ≤ suc i + k → (f i or_else first_of f (suc i) k).place ≤ i + suc k
    go zero e l = rw (or_else_none (f i) (first_of f (suc i) k) e) (omega arith)
    go (suc n) e l = rw (or_else_fault (f i) (first_of f (suc i) k) (λ z. omega arith)) (omega (arith, h i))

pub records_short : (b : List ℕ) → length b / 4 ≤ 65535 → stopped (records_fault b) ≡ records_fault b
unfolding stopped records_fault record_fault
records_short b h =
    let l : (records_fault b).place ≤ 0 + length b / 4 = first_most (record_fault b) (λ i. placed_most _ (suc i)) 0 (length b / 4) in
    ap (λ (p : ℕ). record { number = (records_fault b).number; place = p }) (omega arith)
