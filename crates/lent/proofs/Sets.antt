-- What holds of a run of stores, `sets`, wherever it starts and however much of it has room. Assumes nothing.
use mathlib.Core.Path.{◌≡◌, refl, sym}
use mathlib.Core.List.{List, [], ◌∷◌, ◌++◌}
use Prim.Native.Nat.{ℕ, zero, suc, ◌+◌, ◌-◌, ◌≤◌}
use native.Mathlib.Nat.{add-zero, add-suc, suc-add}
use native.Mathlib.Omega.{arith}
use lib.ListN.{length, set, take, length-set}
use lib.Seq.{sets, set_out, set-append_left, take-nil}

-- behind the end nothing is stored
pub sets_out : (d : List ℕ) (i : ℕ) (xs : List ℕ) → length d ≤ i → sets d i xs ≡ d
sets_out d i [] h = refl
sets_out d i (x ∷ xs) h = rw (set_out d i x) (sets_out d (suc i) xs (omega arith))

-- only as much is stored as has room
pub sets_room : (d : List ℕ) (i : ℕ) (xs : List ℕ) (n : ℕ) → length d - i ≤ n → sets d i (take n xs) ≡ sets d i xs
sets_room d i [] n h = rw take-nil
sets_room d i (x ∷ xs) zero h = sym (sets_out d i (x ∷ xs) (omega arith))
sets_room d i (x ∷ xs) (suc n) h = sets_room (set d i x) (suc i) xs n (omega (arith, length-set d i x))

-- one run after another
pub sets_append : (d : List ℕ) (i : ℕ) (xs ys : List ℕ) → sets d i (xs ++ ys) ≡ sets (sets d i xs) (i + length xs) ys
sets_append d i [] ys = rw add-zero
sets_append d i (x ∷ xs) ys = rw (add-suc, ← suc-add) (sets_append (set d i x) (suc i) xs ys)

-- a run that has room in the first of two lists
pub sets_left : (a b : List ℕ) (i : ℕ) (vs : List ℕ) → length vs ≤ length a - i → sets (a ++ b) i vs ≡ sets a i vs ++ b
sets_left a b i [] h = refl
sets_left a b i (v ∷ vs) h =
    rw (set-append_left a b i v (omega arith)) (sets_left (set a i v) b (suc i) vs (omega (arith, length-set a i v)))
