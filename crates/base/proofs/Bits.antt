-- Masks, and what holds of every number below a bound by one computed test. Assumes nothing.
use mathlib.Core.Path.{◌≡◌, refl, sym, ap₂, ◌∙◌}
use mathlib.Core.Logic.{⊎_elim}
use mathlib.Core.Bool.{Bool, true, false, ◌&&◌, true≢false}
use Prim.Native.Nat.{ℕ, zero, suc, ◌*◌, ◌+◌, ◌/◌, ◌%◌, ◌≤◌, ◌<◌, min}
use native.Mathlib.Nat.{eq-or-lt_of_le}
use native.Mathlib.Omega.{arith}
use lib.Arith.{bin_ind, digits_div, digits_mod}
use lib.Bits.{bit_and, and_step}

-- masked twice is masked once
pub and_again : (b m : ℕ) → bit_and (bit_and b m) m ≡ bit_and b m
and_again = bin_ind (λ (n : ℕ). (m : ℕ) → bit_and (bit_and n m) m ≡ bit_and n m) (λ m. refl) step
  where
    step : (n : ℕ) → ((m : ℕ) → bit_and (bit_and (n / 2) m) m ≡ bit_and (n / 2) m) → (m : ℕ) → bit_and (bit_and n m) m ≡ bit_and n m
    step n ih m =
        let x : ℕ = bit_and (n / 2) (m / 2) in
        let y : ℕ = min (n % 2) (m % 2) in
        let h : y < 2 = omega arith in
        rw (and_step n m)
        (and_step (x * 2 + y) m
        ∙ ap₂ (λ (p q : ℕ). bit_and p (m / 2) * 2 + min q (m % 2)) (digits_div x h) (digits_mod x h)
        ∙ ap₂ (λ (p q : ℕ). p * 2 + q) (ih (m / 2)) (omega arith))

-- a test at each number below n
abbrev pub below : (ℕ → Bool) → ℕ → Bool
below p zero = true
below p (suc n) = below p n && p n

both : (a b : Bool) → (a && b) ≡ true → (a ≡ true) × (b ≡ true)
both true b e = (refl, e)
both false b e = absurd (true≢false (sym e))

pub below_all : (p : ℕ → Bool) (n : ℕ) → below p n ≡ true → (k : ℕ) → k < n → p k ≡ true
below_all p zero e k h = absurd (omega arith)
below_all p (suc n) e k h =
    let u = both (below p n) (p n) e in
    let l : k ≤ n = omega arith in
    ⊎_elim (λ q. rw q u.1) (λ q. below_all p n u.0 k q) (eq-or-lt_of_le l)
