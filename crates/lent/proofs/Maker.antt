-- The laws of a maker's answer, case by case. Assumes nothing.
use mathlib.Core.Path.{◌≡◌, refl, sym, ap, ap₂, ◌∙◌}
use mathlib.Core.List.{List}
use Prim.Native.Nat.{ℕ, zero, suc, ◌≤◌, ◌<◌}
use native.Mathlib.Omega.{arith}
use lib.Dec.{ltb}
use lib.ListN.{length}
use borrow.Author.Tests.{lt-ltb, le-ltb, ltb-false}
use Rattle.refusal.specs.declared.Refusal.{Refusal}
use Rattle.refusal.specs.First.{refuse, accept, ◌if◌else◌, ◌or_else◌, unless}
use Rattle.refusal.proofs.First.{if_true, if_false, or_else_none, or_else_fault, if_zero, or_else_zero, unless_none, unless_fault}
use Rattle.lent.specs.Wrote.{Wrote}
use Rattle.lent.specs.declared.Made.{Made}
use Rattle.lent.specs.Maker.{Outcome, outcome, refused, written, refusing, making, makes}
use Rattle.lent.proofs.Laws.{front}

-- the bytes were written
pub written_making : {d e xs : List ℕ} {n : ℕ} → length xs ≤ length d → Wrote d 0 xs n e → outcome (written n) e ≡ making xs d
unfolding making
written_making h w = ap₂ (λ (c : ℕ) (b : List ℕ). outcome (written c) b) (omega (arith, w.next)) (front w h)

-- a refusal that was found is the answer, whatever would come next
pub refused_unless : {m : Made} {a b : Refusal} {d : List ℕ} (x : Outcome) → m ≡ refused a → a ≡ b → (a.number ≡ 0 → ⊥) → outcome m d ≡ unless b (refusing d) x
unfolding refusing
refused_unless {m} {a} {b} {d} x e q h = ap (λ (n : Made). outcome n d) e ∙ sym (rw (← q) (unless_fault a (refusing d) x h))

module _ (r : Refusal) (short : ℕ) (xs d : List ℕ) where
  abbrev room : Refusal
  room = refuse short if ltb (length d) (length xs) else accept

  -- it is refused
  pub makes_fault : (r.number ≡ 0 → ⊥) → makes r short xs d ≡ refusing d r
  unfolding makes
  makes_fault h = rw (or_else_fault r room h) (unless_fault r (refusing d) (making xs d) h)

  -- it is not, and the buffer is too short
  pub makes_short : r.number ≡ 0 → (short ≡ 0 → ⊥) → length d < length xs → makes r short xs d ≡ refusing d (refuse short)
  unfolding makes
  makes_short e k h = rw (or_else_none r room e, lt-ltb (length d) (length xs) h, if_true) (unless_fault (refuse short) (refusing d) (making xs d) k)

  -- it is not, and there is room
  pub makes_made : r.number ≡ 0 → length xs ≤ length d → makes r short xs d ≡ making xs d
  unfolding makes
  makes_made e h = rw (or_else_none r room e, le-ltb (length d) (length xs) h, if_false) (unless_none accept (refusing d) (making xs d) refl)

  -- the number that is given
  pub makes_number : (makes r short xs d).made.refusal.number ≡ (r or_else room).number
  unfolding makes making refusing
  makes_number = go (r or_else room).number refl
    where
      go : (n : ℕ) → (r or_else room).number ≡ n → (unless (r or_else room) (refusing d) (making xs d)).made.refusal.number ≡ (r or_else room).number
      go zero e = ap (λ (o : Outcome). o.made.refusal.number) (unless_none (r or_else room) (refusing d) (making xs d) e) ∙ sym e
      go (suc n) e = ap (λ (o : Outcome). o.made.refusal.number) (unless_fault (r or_else room) (refusing d) (making xs d) (λ z. omega arith))

-- what the number 0 says
pub makes_zero : (r : Refusal) (k : ℕ) (xs d : List ℕ) → (makes r (suc k) xs d).made.refusal.number ≡ 0 → (r.number ≡ 0) × (length xs ≤ length d)
makes_zero r k xs d e =
    let x = or_else_zero r (room r (suc k) xs d) (sym (makes_number r (suc k) xs d) ∙ e) in
    (x.0, ltb-false _ _ (if_zero _ _ _ x.1).0)

-- a refusal before those of a maker
pub makes_after : (a b : Refusal) (short : ℕ) (xs d : List ℕ) → makes (a or_else b) short xs d ≡ unless a (refusing d) (makes b short xs d)
makes_after a b short xs d = go a.number refl
  where
    go : (n : ℕ) → a.number ≡ n → makes (a or_else b) short xs d ≡ unless a (refusing d) (makes b short xs d)
    go zero e = ap (λ (r : Refusal). makes r short xs d) (or_else_none a b e) ∙ sym (unless_none a (refusing d) (makes b short xs d) e)
    go (suc n) e =
        let k : a.number ≡ 0 → ⊥ = λ z. omega arith in
        ap (λ (r : Refusal). makes r short xs d) (or_else_fault a b k) ∙ makes_fault a short xs d k ∙ sym (unless_fault a (refusing d) (makes b short xs d) k)
