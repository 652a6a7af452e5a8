-- `hex_text::is_sum` meets its contract: the difference is what the sum has more. Assumes nothing.
use mathlib.Core.Path.{◌≡◌, refl, sym, ◌∙◌}
use mathlib.Core.Bool.{Bool, true, false}
use Prim.Native.Nat.{ℕ, ◌+◌, ◌-◌, ◌≤◌, ◌<◌}
use native.Mathlib.Omega.{arith}
use lib.Dec.{eqb}
use borrow.Author.Tests.{eq-eqb, ne_eqb, eqb-true, eqb-false}
use Rattle.hex_text.proofs.is_sum.Goals as goal

apart : (n m k : ℕ) → m ≤ n → eqb (n - m) k ≡ eqb n (m + k)
apart n m k h = go (eqb n (m + k)) refl
  where
    go : (b : Bool) → eqb n (m + k) ≡ b → eqb (n - m) k ≡ eqb n (m + k)
    go true e = eq-eqb (n - m) k (omega (arith, eqb-true n (m + k) e)) ∙ sym e
    go false e = ne_eqb (n - m) k (λ z. eqb-false n (m + k) e (omega arith)) ∙ sym e

below : (n m k : ℕ) → n < m → false ≡ eqb n (m + k)
below n m k h = sym (ne_eqb n (m + k) (λ z. omega arith))

pub returns-then-n-m : goal.returns-then-n-m
returns-then-n-m c = below _ _ _ c.if-n-m.true

pub returns : goal.returns
returns c = apart _ _ _ c.if-n-m.false
