-- What flags are that the rule accepts, whatever the refusals that it gives. Assumes nothing.
use borrow.Author.Tests.{eqb-true, eq-eqb, not-false}
use mathlib.Core.Path.{◌≡◌, refl, sym, ap, ◌∙◌}
use mathlib.Core.Bool.{Bool, true, false, not, ◌&&◌, true≢false}
use Prim.Native.Nat.{ℕ}
use Rattle.refusal.specs.declared.Refusal.{Refusal}
use Rattle.refusal.specs.First.{accept, ◌if◌else◌}
use Rattle.refusal.proofs.First.{or_else_none, or_else_zero}
use Rattle.text.specs.Flags.{reserved, persistent, current, alone, odd, flags_giving}
use Rattle.base.proofs.Bools.{or_false}

-- reserved bits 0, Persistent only with Current
pub record Flagged (f : ℕ) : Type 0 where
  pub reserved_zero : reserved f ≡ 0
  pub current_too : persistent f ≡ 1 → current f ≡ 1

if_no : (r : Refusal) (b : Bool) → (r.number ≡ 0 → ⊥) → (r if b else accept).number ≡ 0 → b ≡ false
unfolding ◌if◌else◌
if_no r true h e = absurd (h e)
if_no r false h e = refl

-- a rule that does not hold gives no refusal
if_accept : (r : Refusal) (b : Bool) → b ≡ false → (r if b else accept) ≡ accept
unfolding ◌if◌else◌
if_accept r true e = absurd (true≢false e)
if_accept r false e = refl

none : (r : Refusal) (b : Bool) → b ≡ false → (r if b else accept).number ≡ 0
none r b e = ap (λ (x : Refusal). x.number) (if_accept r b e)

alone_too : (p c : Bool) → (p && not c) ≡ false → p ≡ true → c ≡ true
alone_too true c e h = not-false c e
alone_too false c e h = absurd (true≢false (sym h))

not_alone : (p c : Bool) → (p ≡ true → c ≡ true) → (p && not c) ≡ false
not_alone true c h = rw (h refl)
not_alone false c h = refl

module _ (a b : Refusal) (f : ℕ) where
  pub flags_good : (a.number ≡ 0 → ⊥) → (b.number ≡ 0 → ⊥) → (flags_giving a b f).number ≡ 0 → Flagged f
  unfolding flags_giving
  flags_good h i e =
      let x = or_else_zero _ _ e in
      record {
        reserved_zero = eqb-true _ _ (not-false _ (if_no a _ h x.0));
        current_too = λ p. eqb-true _ _ (alone_too _ _ (if_no b _ i x.1) (eq-eqb _ _ p));
      }

  -- no reserved bit, and Persistent not alone
  pub flags_quiet : reserved f ≡ 0 → alone f ≡ false → flags_giving a b f ≡ accept
  unfolding flags_giving
  flags_quiet z l = or_else_none _ _ (none a _ (ap not (eq-eqb (reserved f) 0 z))) ∙ if_accept b _ l

  pub flags_accept : Flagged f → flags_giving a b f ≡ accept
  flags_accept g = flags_quiet g.reserved_zero (not_alone _ _ (λ p. eq-eqb (current f) 1 (g.current_too (eqb-true (persistent f) 1 p))))

  -- flags that are not odd
  pub flags_even : odd f ≡ false → flags_giving a b f ≡ accept
  unfolding flags_giving
  flags_even e =
      let x = or_false _ _ e in
      or_else_none _ _ (none a _ x.0) ∙ if_accept b _ x.1

  -- only the reserved bits, Persistent and Current count: the Version does not
  pub version_free : (g : ℕ) → reserved f ≡ reserved g → persistent f ≡ persistent g → current f ≡ current g → flags_giving a b f ≡ flags_giving a b g
  unfolding flags_giving
  version_free g r p c = rw (r, p, c)
