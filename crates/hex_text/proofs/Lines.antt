-- The laws of `line_at`, as a loop that counts lines holds them. Assumes nothing.
use mathlib.Core.Path.{◌≡◌, refl, ap, ◌∙◌}
use mathlib.Core.List.{List}
use Prim.Native.Nat.{ℕ, zero, suc, ◌+◌, ◌≤◌}
use native.Mathlib.Numerals.{add-one}
use native.Mathlib.Omega.{arith}
use Rattle.hex_text.specs.Chars.{at, ends, line_at}

pub line_first : (s : List ℕ) → line_at s 0 ≡ 1
unfolding line_at
line_first s = refl

-- one more character
pub line_more : (s : List ℕ) (k line c r : ℕ) → line ≡ line_at s k → c ≡ at s k → r ≡ ends c → line + r ≡ line_at s (k + 1)
unfolding line_at
line_more s k line c r e f g = rw add-one (cc)

-- no line is 0
pub line_some : (s : List ℕ) (i : ℕ) → 1 ≤ line_at s i
unfolding line_at
line_some s zero = omega arith
line_some s (suc i) = omega (arith, line_some s i)

-- the loop came to the index
pub line_at_end : (s : List ℕ) (i k line : ℕ) → line ≡ line_at s k → k ≤ i → i ≤ k → line ≡ line_at s i
line_at_end s i k line e h g =
    let n : k ≡ i = omega arith in
    e ∙ ap (line_at s) n
