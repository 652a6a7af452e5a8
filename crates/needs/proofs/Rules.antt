-- What a chain of early returns needs, and lines that ask nothing. Assumes nothing.
use borrow.Author.Tests.{lt-ltb, le-ltb, eq-eqb, ne_eqb, eqb-true}
use mathlib.Core.Path.{◌≡◌, refl, sym}
use mathlib.Core.Bool.{Bool, true, false, ◌&&◌, true≢false}
use mathlib.Core.List.{List, [], ◌∷◌}
use Prim.Native.Nat.{ℕ, suc, ◌+◌, ◌≤◌}
use native.Mathlib.Omega.{arith}
use lib.Bits.{and_zero_r}
use lib.ListN.{length, drop, get_or, length-take}
use Rattle.base.specs.Lists.{All, Bytes}
use Rattle.text.specs.Reading.{length_at, desc_at}
use Rattle.refusal.specs.First.{◌if◌else◌}
use Rattle.refusal.proofs.First.{if_true, if_false}
use Rattle.needs.specs.declared.table.Need.{Need}
use Rattle.needs.specs.Judge.{is_too_long, line_wrong, desc_wrong}
use Rattle.needs.specs.inner.Walk.{every, asks_nothing}

-- nothing is wrong: the test fails, and nothing is wrong behind it
pub chosen_zero : (k : ℕ) (b : Bool) (y : ℕ) → (suc k if b else y) ≡ 0 → (b ≡ false) × (y ≡ 0)
unfolding ◌if◌else◌
chosen_zero k true y e = absurd (omega arith)
chosen_zero k false y e = (refl, e)

pub chosen_case : (P : ℕ → Type 0) (x : ℕ) (b : Bool) (y : ℕ) → (b ≡ true → P x) → (b ≡ false → P y) → P (x if b else y)
unfolding ◌if◌else◌
chosen_case P x true y f g = f refl
chosen_case P x false y f g = g refl

-- the tests on a way turned into the answer's case
pub ruleset rules = (lt-ltb, le-ltb, eq-eqb, ne_eqb, if_true, if_false)

pub and_true : (a b : Bool) → (a && b) ≡ true → (a ≡ true) × (b ≡ true)
and_true true b e = (refl, e)
and_true false b e = absurd (true≢false (sym e))

-- what holds of every element, by one computed test
pub every_all : {A : Type 0} (test : A → Bool) (xs : List A) → every test xs ≡ true → All (λ (x : A). test x ≡ true) xs
every_all test [] e = tt
every_all test (x ∷ xs) e = let a = and_true (test x) (every test xs) e in (a.0, every_all test xs a.1)

-- ---- no body is longer than a byte counts

pub body_short : (s : List ℕ) (at : ℕ) → Bytes s → length (desc_at s at).body ≤ 255
unfolding desc_at length_at
body_short s at b = omega (arith, length-take (get_or s (at + 3) 0) (drop (at + 4) s), b (at + 3))

pub never_long : (longest : ℕ) (s : List ℕ) (at : ℕ) → Bytes s → longest ≡ 255 → is_too_long longest (desc_at s at) ≡ false
unfolding is_too_long
never_long longest s at b e = le-ltb longest (length (desc_at s at).body) (omega (arith, body_short s at b))

-- a line that asks for its feature only
pub asked_nothing : (n : Need) (longest : ℕ) (s : List ℕ) (at : ℕ) → Bytes s → asks_nothing n longest ≡ true → desc_wrong n longest (desc_at s at) ≡ 0
unfolding asks_nothing desc_wrong line_wrong
asked_nothing n longest s at b e =
    let w = and_true _ _ e in
    let x = and_true _ _ w.0 in
    let y = and_true _ _ x.0 in
    let l = body_short s at b in
    rw (
      eqb-true n.2 0 y.1,
      eqb-true n.4 0 x.1,
      eqb-true n.5 0 w.1,
      eqb-true longest 255 y.0,
      and_zero_r (desc_at s at).flags,
      and_zero_r (get_or (desc_at s at).body n.3 0),
      le-ltb (length (desc_at s at).body) 0 (omega arith),
      le-ltb 255 (length (desc_at s at).body) l,
      if_false {A = ℕ} 2,
      if_false {A = ℕ} 3,
      if_false {A = ℕ} 4,
      if_false {A = ℕ} 5,
    )
