-- The laws of a choice, for chains of early returns. Assumes nothing.
use borrow.Author.Tests.{lt-ltb, le-ltb, le-leb, lt-leb, eq-eqb, ne_eqb}
use mathlib.Core.Path.{◌≡◌, refl, sym, ◌∙◌}
use mathlib.Core.Bool.{Bool, true, false}
use Prim.Native.Nat.{ℕ, ◌≤◌, ◌<◌}
use native.Mathlib.Omega.{arith}
use lib.Dec.{ltb}
use Rattle.hex_text.specs.Chars.{choose}

pub choose_true : {A : Type 0} (x y : A) → choose true x y ≡ x
unfolding choose
choose_true x y = refl

pub choose_false : {A : Type 0} (x y : A) → choose false x y ≡ y
unfolding choose
choose_false x y = refl

pub choose_yes : {A : Type 0} (b : Bool) (x y : A) → b ≡ true → choose b x y ≡ x
choose_yes b x y h = rw h (choose_true x y)

pub choose_no : {A : Type 0} (b : Bool) (x y : A) → b ≡ false → choose b x y ≡ y
choose_no b x y h = rw h (choose_false x y)

-- a call gave the answer r, which was tested
pub call_true : (r b : Bool) → r ≡ b → r ≡ true → b ≡ true
call_true r b e h = sym e ∙ h

pub call_false : (r b : Bool) → r ≡ b → r ≡ false → b ≡ false
call_false r b e h = sym e ∙ h

-- the tests are of numbers
pub ruleset tests = (lt-ltb, le-ltb, le-leb, lt-leb, eq-eqb, ne_eqb, choose_true, choose_false)

-- the answer r is that of the case
pub Y : {A : Type 0} {r : A} (b : Bool) (x y : A) → b ≡ true → r ≡ x → r ≡ choose b x y
Y b x y h e = e ∙ sym (choose_yes b x y h)

pub N : {A : Type 0} {r : A} (b : Bool) (x y : A) → b ≡ false → r ≡ y → r ≡ choose b x y
N b x y h e = e ∙ sym (choose_no b x y h)

-- a number that a call gave, compared
pub call_lt : (r a k : ℕ) → r ≡ a → r < k → ltb a k ≡ true
call_lt r a k e h = lt-ltb a k (omega arith)

pub call_le : (r a k : ℕ) → r ≡ a → k ≤ r → ltb a k ≡ false
call_le r a k e h = le-ltb a k (omega arith)

-- the tests are of what calls gave
pub ruleset calls = (choose_yes, choose_no, call_true, call_false)
