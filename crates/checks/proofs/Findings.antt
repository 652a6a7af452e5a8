-- Which of two findings counts. Assumes nothing.
use mathlib.Core.Path.{◌≡◌, refl, sym, ap, ◌∙◌}
use mathlib.Core.Bool.{Bool, true, false, not}
use Prim.Native.Nat.{ℕ, zero, suc}
use native.Mathlib.Omega.{arith}
use Rattle.refusal.specs.declared.Refusal.{Refusal}
use Rattle.text.specs.declared.Feature.{Feature}
use Rattle.refusal.specs.First.{refuse, accept, ◌if◌else◌}
use Rattle.checks.specs.declared.Finding.{Finding}
use Rattle.checks.specs.Check.{finding, ◌or_next◌}
use Rattle.base.proofs.Bools.{not_yes, not_no}
use Rattle.refusal.proofs.First.{call_fault}
use Rattle.refusal.proofs.Calls.{if_yes, if_no}

-- no number: the next one counts
pub next_none : (a b : Finding) → a.refusal.number ≡ 0 → a or_next b ≡ b
unfolding ◌or_next◌
next_none a b h = rw (h, ◌or_next◌)

-- a number: it counts
pub next_fault : (a b : Finding) → (a.refusal.number ≡ 0 → ⊥) → a or_next b ≡ a
unfolding ◌or_next◌
next_fault a b h = go a.refusal.number h
  where
    go : (n : ℕ) → (n ≡ 0 → ⊥) → ◌≡◌ {A = Finding} (elim n [ zero ↦ b | suc k ↦ a ]) a
    go zero k = absurd (k refl)
    go (suc n) k = refl

-- neither has a number
pub next_zero : (a b : Finding) → (a or_next b).refusal.number ≡ 0 → (a.refusal.number ≡ 0) × (b.refusal.number ≡ 0)
next_zero a b e = go a.refusal.number refl
  where
    go : (n : ℕ) → a.refusal.number ≡ n → (a.refusal.number ≡ 0) × (b.refusal.number ≡ 0)
    go zero h = (h, ap (λ (x : Finding). x.refusal.number) (sym (next_none a b h)) ∙ e)
    go (suc n) h =
        let z = ap (λ (x : Finding). x.refusal.number) (sym (next_fault a b (λ o. absurd (omega arith)))) ∙ e in
        absurd (omega arith)

-- 30, by whether a feature is reported
pub core_missing : (f : ℕ) (there : Bool) (n : Finding) → there ≡ false → finding (refuse 30 if not there else accept) f or_next n ≡ finding (refuse 30) f
core_missing f there n e =
    ap (λ (r : Refusal). finding r f or_next n) (if_yes (refuse 30) accept (not there) (not_yes there e))
    ∙ next_fault (finding (refuse 30) f) n (λ z. absurd (omega arith))

pub core_there : (f : ℕ) (there : Bool) (n : Finding) → there ≡ true → finding (refuse 30 if not there else accept) f or_next n ≡ n
core_there f there n e =
    ap (λ (r : Refusal). finding r f or_next n) (if_no (refuse 30) accept (not there) (not_no there e))
    ∙ next_none (finding accept f) n refl

-- a call's refusal, made the finding
pub next_call : (r a : Refusal) (f : ℕ) (n : Finding) → r ≡ a → (r.number ≡ 0 → ⊥) → finding r f ≡ finding a f or_next n
next_call r a f n e k = ap (λ (x : Refusal). finding x f) e ∙ sym (next_fault (finding a f) n (call_fault r a e k))

pub finding_eq : (a b : Refusal) (f : Feature) (n : ℕ) → a ≡ b → f.0 ≡ n → record { refusal = a; feature = f } ≡ finding b n
finding_eq a b f n p q = rw (p, ← q)
