-- Decimal digits: digit by digit, and how many there are. Assumes nothing.
use mathlib.Core.Path.{◌≡◌, refl, sym, ap, ◌∙◌}
use mathlib.Core.Logic.{⊎_elim}
use mathlib.Core.List.{List, [], ◌∷◌, ◌++◌}
use Prim.Native.Nat.{ℕ, zero, suc, ◌+◌, ◌-◌, ◌*◌, ◌/◌, ◌%◌, ◌^◌, ◌≤◌, ◌<◌}
use native.Mathlib.Nat.{pow-suc}
use native.Mathlib.Omega.{arith}
use lib.ListN.{length, get_or, length-append}
use borrow.Author.Tests.{lt-ltb, le-ltb}
use Rattle.base.proofs.Compare.{le_or_lt}
use Rattle.listing.specs.Digits.{digit, decimal_of, decimal}

-- ---- a digit

pub digit_low : (d : ℕ) → d < 10 → digit d ≡ 48 + d
unfolding digit
digit_low d h = rw (lt-ltb d 10 h, digit)

pub digit_high : (d : ℕ) → 10 ≤ d → digit d ≡ 55 + d
unfolding digit
digit_high d h = rw (le-ltb d 10 h, digit)

-- ---- the digits of a number

of_small : (k n : ℕ) → n < 10 → decimal_of k n ≡ digit n ∷ []
unfolding decimal_of
of_small zero n h = refl
of_small (suc k) n h = rw (lt-ltb n 10 h, decimal_of)

of_more : (k n : ℕ) → 10 ≤ n → decimal_of (suc k) n ≡ decimal_of k (n / 10) ++ (digit (n % 10) ∷ [])
unfolding decimal_of
of_more k n h = rw (le-ltb n 10 h, decimal_of)

-- more room for digits than there are changes none
of_room : (k j n : ℕ) → n ≤ k → n ≤ j → decimal_of k n ≡ decimal_of j n
of_room zero j n h l = of_small zero n (omega arith) ∙ sym (of_small j n (omega arith))
of_room (suc k) zero n h l = of_small (suc k) n (omega arith) ∙ sym (of_small zero n (omega arith))
of_room (suc k) (suc j) n h l =
    let again : n / 10 ≤ k → n / 10 ≤ j → decimal_of k (n / 10) ≡ decimal_of j (n / 10) = of_room k j (n / 10) in
    ⊎_elim
    (λ (m : 10 ≤ n). rw (of_more k n m, of_more j n m, again (omega arith) (omega arith)))
    (λ (m : n < 10). rw (of_small (suc k) n m, of_small (suc j) n m))
    (le_or_lt 10 n)

pub decimal_one : (n : ℕ) → n < 10 → decimal n ≡ digit n ∷ []
unfolding decimal
decimal_one n h = of_small n n h

pub decimal_more : (n : ℕ) → 10 ≤ n → decimal n ≡ decimal (n / 10) ++ (digit (n % 10) ∷ [])
unfolding decimal
decimal_more n h =
    ap (λ (k : ℕ). decimal_of k n) {x = n} {y = suc (n - 1)} (omega arith)
    ∙ of_more (n - 1) n h
    ∙ ap (λ (ds : List ℕ). ds ++ (digit (n % 10) ∷ [])) (of_room (n - 1) (n / 10) (n / 10) (omega arith) (omega arith))

-- a number below 10 ^ (k + 1) has at most k + 1 digits
pub length_decimal : (k n : ℕ) → n < 10 ^ suc k → length (decimal n) ≤ suc k
length_decimal zero n h = rw (decimal_one n (omega arith)) (omega arith)
length_decimal (suc k) n h =
    let again : n / 10 < 10 ^ suc k → length (decimal (n / 10)) ≤ suc k = length_decimal k (n / 10) in
    ⊎_elim
    (λ (m : 10 ≤ n).
    let l : n < 10 ^ suc k * 10 = rw pow-suc at h in
    rw (decimal_more n m) (omega (arith, length-append (decimal (n / 10)) (digit (n % 10) ∷ []), again (omega arith))))
    (λ (m : n < 10). rw (decimal_one n m) (omega arith))
    (le_or_lt 10 n)

-- ---- what the digits say

-- the number that digits spell behind the number n
abbrev pub spelt : ℕ → List ℕ → ℕ
spelt n [] = n
spelt n (c ∷ cs) = spelt (n * 10 + (c - 48)) cs

spelt_append : (n : ℕ) (cs ds : List ℕ) → spelt n (cs ++ ds) ≡ spelt (spelt n cs) ds
spelt_append n [] ds = refl
spelt_append n (c ∷ cs) ds = spelt_append (n * 10 + (c - 48)) cs ds

-- by induction over a number and its tenth
pub decimal_induct : (P : ℕ → List ℕ → Type 0)
    → ((n : ℕ) → n < 10 → P n (digit n ∷ []))
    → ((n : ℕ) → 10 ≤ n → P (n / 10) (decimal (n / 10)) → P n (decimal (n / 10) ++ (digit (n % 10) ∷ [])))
    → (k n : ℕ) → n ≤ k → P n (decimal n)
decimal_induct P one more zero n h = rw (decimal_one n (omega arith)) (one n (omega arith))
decimal_induct P one more (suc k) n h =
    let again : n / 10 ≤ k → P (n / 10) (decimal (n / 10)) = decimal_induct P one more k (n / 10) in
    ⊎_elim
    (λ (m : 10 ≤ n). rw (decimal_more n m) (more n m (again (omega arith))))
    (λ (m : n < 10). rw (decimal_one n m) (one n m))
    (le_or_lt 10 n)

-- the decimal digits of a number spell it
pub spelt_decimal : (n : ℕ) → spelt 0 (decimal n) ≡ n
spelt_decimal n = decimal_induct (λ m cs. spelt 0 cs ≡ m)
    (λ m h. rw (digit_low m h) (omega arith))
    (λ m h e. rw (spelt_append 0 (decimal (m / 10)) (digit (m % 10) ∷ []), e, digit_low (m % 10) (omega arith)) (omega arith))
    n n (omega arith)

front_append : (cs ds : List ℕ) → 48 < get_or cs 0 0 → 48 < get_or (cs ++ ds) 0 0
front_append [] ds h = absurd (omega arith)
front_append (c ∷ cs) ds h = h

-- and the first is no zero, but for the number 0
pub decimal_front : (n : ℕ) → 0 < n → 48 < get_or (decimal n) 0 0
decimal_front n = decimal_induct (λ m cs. 0 < m → 48 < get_or cs 0 0)
    (λ m h l. rw (digit_low m h) (omega arith))
    (λ m h e l. front_append (decimal (m / 10)) (digit (m % 10) ∷ []) (e (omega arith)))
    n n (omega arith)
