-- Passing entries one by one: the loop, and that from where an earlier search has ended it ends where bisection of all does. Assumes nothing.
use mathlib.Core.Path.{◌≡◌, refl, ap}
use Prim.Native.Nat.{ℕ, zero, suc, ◌+◌, ◌-◌, ◌≤◌, ◌<◌}
use native.Mathlib.Decide.{dec_le}
use native.Mathlib.Omega.{arith}
use borrow.Author.Tests.{lt-ltb, le-ltb}
use Rattle.layout.specs.Layout.{Sheet, feature_count, number}
use Rattle.sheet.specs.Facts.{Facts}
use Rattle.sheet.specs.inner.Search.{closing, first_from, passing, next_from}
use Rattle.sheet.proofs.Accepted.{ascending}
use Rattle.sheet.proofs.Bisection.{First, closed_first, first_from_law}

-- ---- the loop, with k left to be passed

module _ (s : Sheet) (n sfn i : ℕ) where
  pub passing_more : (k : ℕ) → 0 < k → i < n → number s i < sfn → passing k s n sfn i ≡ passing (k - 1) s n sfn (i + 1)
  unfolding passing
  passing_more zero p l h = absurd (omega arith)
  passing_more (suc k) p l h =
      let e : suc k - 1 ≡ k = omega arith in
      rw (e, lt-ltb i n l, lt-ltb (number s i) sfn h, passing)

  pub passing_stop : (k : ℕ) → 0 < k → i < n → sfn ≤ number s i → passing k s n sfn i ≡ i
  unfolding passing
  passing_stop zero p l h = absurd (omega arith)
  passing_stop (suc k) p l h = rw (lt-ltb i n l, le-ltb (number s i) sfn h, passing)

  pub passing_done : (k : ℕ) → 0 < k → n ≤ i → passing k s n sfn i ≡ i
  unfolding passing
  passing_done zero p l = absurd (omega arith)
  passing_done (suc k) p l = rw (le-ltb i n l, passing)

  pub passing_none : (k : ℕ) → k ≤ 0 → passing k s n sfn i ≡ closing (n - i) s sfn i n
  unfolding passing
  passing_none zero p = refl
  passing_none (suc k) p = absurd (omega arith)

-- ---- where it ends

module _ (s : Sheet) (n sfn : ℕ) where
  -- where the one before the start is below sfn, at the first of all
  passing_first : (k i : ℕ) → i ≤ n → (0 < i → number s (i - 1) < sfn) → First s n sfn (passing k s n sfn i)
  passing_first zero i l before = rw (passing_none s n sfn i 0 (omega arith)) (closed_first s n sfn i l before)
  passing_first (suc k) i l before = elim (dec_le n i) [
    | yes h ↦ rw (passing_done s n sfn i (suc k) (omega arith) h) record { within = l; before = before; behind = λ p. absurd (omega arith) }
    | no h ↦ elim (dec_le sfn (number s i)) [
      | yes g ↦ rw (passing_stop s n sfn i (suc k) (omega arith) (omega arith) g) record { within = l; before = before; behind = λ p. g }
      | no g ↦ (let q : number s (i + 1 - 1) ≡ number s i = ap (number s) (omega arith) in
          let e : suc k - 1 ≡ k = omega arith in
          rw (passing_more s n sfn i (suc k) (omega arith) (omega arith) (omega arith), e) (passing_first k (i + 1) (omega arith) (λ z. omega (arith, q))))
    ]
  ]

module _ {s : Sheet} (f : Facts s) where
  not_behind : {sfn a b : ℕ} → First s (feature_count s) sfn a → First s (feature_count s) sfn b → a < b → ⊥
  not_behind {sfn} {a} {b} p q l = elim (dec_le (b - 1) a) [
    | yes h ↦ (let e : b - 1 ≡ a = omega arith in
        omega (arith, ap (number s) e, p.behind (omega (arith, q.within)), q.before (omega arith)))
    | no h ↦ omega (arith, ascending f a (b - 1) (omega arith) (omega (arith, q.within)), p.behind (omega (arith, q.within)), q.before (omega arith))
  ]

  -- there is one first
  pub first_once : {sfn a b : ℕ} → First s (feature_count s) sfn a → First s (feature_count s) sfn b → a ≡ b
  first_once {sfn} {a} {b} p q = elim (dec_le (suc a) b) [
    | yes l ↦ absurd (not_behind p q l)
    | no l ↦ elim (dec_le (suc b) a) [ yes g ↦ absurd (not_behind q p g) | no g ↦ omega arith ]
  ]

  -- on from the first of a lower number
  pub next_first : {sfn higher from r : ℕ} → from ≡ first_from s (feature_count s) sfn → sfn ≤ higher → r ≡ next_from s (feature_count s) higher from → r ≡ first_from s (feature_count s) higher
  unfolding next_from
  next_first {sfn} {higher} {from} {r} e h q =
      let n : ℕ = feature_count s in
      let start : First s n sfn from = rw e (first_from_law s n sfn) in
      first_once (rw q (passing_first s n higher 8 from start.within (λ p. omega (arith, start.before p)))) (first_from_law s n higher)
