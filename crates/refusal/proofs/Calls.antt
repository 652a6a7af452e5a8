-- What a call gave, a bool or a number, said of the definition that its contract cites. Assumes nothing.
use borrow.Author.Tests.{eq-eqb, ne_eqb}
use mathlib.Core.Path.{◌≡◌, sym, ◌∙◌}
use mathlib.Core.Bool.{Bool, true, false, not}
use Prim.Native.Nat.{ℕ, ◌<◌}
use native.Mathlib.Omega.{arith}
use lib.Dec.{eqb}
use Rattle.refusal.specs.declared.Refusal.{Refusal}
use Rattle.refusal.specs.First.{◌if◌else◌}
use Rattle.base.proofs.Bools.{not_yes, not_no}
use Rattle.refusal.proofs.First.{if_true, if_false, call_none, call_fault}

pub if_yes : (x y : Refusal) (b : Bool) → b ≡ true → (x if b else y) ≡ x
if_yes x y b h = rw h (if_true x y)

pub if_no : (x y : Refusal) (b : Bool) → b ≡ false → (x if b else y) ≡ y
if_no x y b h = rw h (if_false x y)

pub call_true : (a b : Bool) → a ≡ b → a ≡ true → b ≡ true
call_true a b e h = sym e ∙ h

pub call_false : (a b : Bool) → a ≡ b → a ≡ false → b ≡ false
call_false a b e h = sym e ∙ h

-- a number, compared
pub call_ne : (r a k : ℕ) → r ≡ a → (r ≡ k → ⊥) → eqb a k ≡ false
call_ne r a k e h = ne_eqb a k (λ z. h (e ∙ z))

pub below_ne : (r k : ℕ) → r < k → r ≡ k → ⊥
below_ne r k h e = omega arith

-- a refusal, tested
pub call_some : (r a : Refusal) → r ≡ a → (r.number ≡ 0 → ⊥) → not (eqb a.number 0) ≡ true
call_some r a e h = not_yes _ (ne_eqb a.number 0 (call_fault r a e h))

pub call_zero : (r a : Refusal) → r ≡ a → r.number ≡ 0 → not (eqb a.number 0) ≡ false
call_zero r a e h = not_no _ (eq-eqb a.number 0 (call_none r a e h))

-- the tests on a way are bools that calls gave
pub ruleset calls = (if_yes, if_no, not_yes, not_no, call_true, call_false)
