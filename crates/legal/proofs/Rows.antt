-- What the table of legal lengths and body bits does not name. Assumes nothing.
use borrow.Author.Tests.{ne_eqb}
use mathlib.Core.Path.{◌≡◌}
use mathlib.Core.Bool.{false}
use Prim.Native.Nat.{ℕ, ◌≤◌, ◌<◌}
use native.Mathlib.Omega.{arith}
use lib.Dec.{eqb}
use Rattle.legal.specs.declared.Row.{Row}
use Rattle.legal.specs.Legal.{legal, other, row_of}
use Rattle.base.proofs.Pick.{pick_never}

-- no row is above 002Fh
pub row_above : (f : ℕ) → 0x2F < f → row_of f ≡ other
unfolding row_of legal
row_above f h =
    let absent : (k : ℕ) → k ≤ 0x2F → eqb k f ≡ false = λ k l. ne_eqb k f (λ e. omega (arith, e, h, l)) in
    pick_never (λ (r : Row). eqb r.0.0 f) (λ (r : Row). r) other legal
    (absent _ (omega arith), (absent _ (omega arith), (absent _ (omega arith), (absent _ (omega arith), (absent _ (omega arith), (absent _ (omega arith), (absent _ (omega arith), (absent _ (omega arith), (absent _ (omega arith), (absent _ (omega arith), (absent _ (omega arith), tt)))))))))))
