-- Bisection: the range that the loop halves, and that it ends at the first entry wanted. Assumes nothing.
use mathlib.Core.Path.{◌≡◌, refl, sym, ap, ◌∙◌}
use Prim.Native.Nat.{ℕ, zero, suc, ◌+◌, ◌-◌, ◌≤◌, ◌<◌}
use native.Mathlib.Decide.{dec_le}
use native.Mathlib.Omega.{arith}
use borrow.Author.Tests.{lt-ltb, le-ltb}
use Rattle.layout.specs.Layout.{Sheet, number}
use Rattle.sheet.specs.declared.Range.{Range}
use Rattle.sheet.specs.inner.Search.{middle, half, closing, first_from}

-- ---- one turn

module _ (s : Sheet) (sfn low high : ℕ) where
  pub half_above : number s (middle low high) < sfn → half s sfn low high ≡ record { low = middle low high + 1; high = high }
  unfolding half
  half_above h = rw (lt-ltb (number s (middle low high)) sfn h, half)

  pub half_below : sfn ≤ number s (middle low high) → half s sfn low high ≡ record { low = low; high = middle low high }
  unfolding half
  half_below h = rw (le-ltb (number s (middle low high)) sfn h, half)

  pub half_smaller : low < high → (half s sfn low high).high - (half s sfn low high).low < high - low
  half_smaller l = elim (dec_le (suc (number s (middle low high))) sfn) [ yes h ↦ rw (half_above h) (omega arith) | no h ↦ rw (half_below (omega arith)) (omega arith) ]

  half_inside : low < high → ((half s sfn low high).low ≤ high) × ((half s sfn low high).high ≤ high)
  half_inside l = elim (dec_le (suc (number s (middle low high))) sfn) [ yes h ↦ rw (half_above h) (omega arith, omega arith) | no h ↦ rw (half_below (omega arith)) (omega arith, omega arith) ]

  closing_more : (k : ℕ) → low < high → closing (suc k) s sfn low high ≡ closing k s sfn (half s sfn low high).low (half s sfn low high).high
  unfolding closing
  closing_more k l = rw (lt-ltb low high l, closing)

  closing_done : (k : ℕ) → high ≤ low → closing k s sfn low high ≡ low
  unfolding closing
  closing_done zero l = refl
  closing_done (suc k) l = rw (le-ltb low high l, closing)

-- no number is below 0
closing_zero : (k : ℕ) (s : Sheet) (low high : ℕ) → closing k s 0 low high ≡ low
unfolding closing
closing_zero zero s low high = refl
closing_zero (suc k) s low high =
    elim (dec_le (suc low) high) [
      | yes l ↦ closing_more s 0 low high k l ∙ rw (half_below s 0 low high (omega arith)) (closing_zero k s low (middle low high))
      | no l ↦ closing_done s 0 low high (suc k) (omega arith)
    ]

pub first_of_all : (s : Sheet) (n sfn : ℕ) → sfn ≡ 0 → 0 ≡ first_from s n sfn
unfolding first_from
first_of_all s n sfn e = rw e (sym (closing_zero n s 0 n))

-- the whole range
pub first_closed : (s : Sheet) (n sfn : ℕ) → closing (n - 0) s sfn 0 n ≡ first_from s n sfn
unfolding first_from
first_closed s n sfn = ap (λ (k : ℕ). closing k s sfn 0 n) {x = n - 0} {y = n} (omega arith)

-- ---- the loop: what is left of the search, with turns enough for the range, and both ends indices

pub record Turning (s : Sheet) (sfn from to low high : ℕ) : Type 0 where
  pub turns : ℕ
  pub enough : high - low ≤ turns
  pub least : low < 65536
  pub most : high < 65536
  pub left : closing (to - from) s sfn from to ≡ closing turns s sfn low high

pub turning_start : {s : Sheet} {sfn from to : ℕ} → from < 65536 → to < 65536 → Turning s sfn from to from to
turning_start {s} {sfn} {from} {to} l m = record { turns = to - from; enough = omega arith; least = l; most = m; left = refl }

pub turning_more : {s : Sheet} {sfn from to low high : ℕ} {r : Range} → Turning s sfn from to low high → low < high → r ≡ half s sfn low high → Turning s sfn from to r.low r.high
turning_more {s} {sfn} {from} {to} {low} {high} t l e = rw e (go t.turns t.enough t.left)
  where
    go : (k : ℕ) → high - low ≤ k → closing (to - from) s sfn from to ≡ closing k s sfn low high → Turning s sfn from to (half s sfn low high).low (half s sfn low high).high
    go zero m q = absurd (omega arith)
    go (suc k) m q =
        let inside = half_inside s sfn low high l in
        record { turns = k; enough = omega (arith, half_smaller s sfn low high l); least = omega (arith, inside.0, t.most); most = omega (arith, inside.1, t.most); left = q ∙ closing_more s sfn low high k l }

pub turning_end : {s : Sheet} {sfn from to low high : ℕ} → Turning s sfn from to low high → high ≤ low → low ≡ closing (to - from) s sfn from to
turning_end {s} {sfn} {from} {to} {low} {high} t l = sym (t.left ∙ closing_done s sfn low high t.turns l)

-- ---- where it ends

-- r is the first of n entries with a number of sfn or more, n if there is none
pub record First (s : Sheet) (n sfn r : ℕ) : Type 0 where
  pub within : r ≤ n
  pub before : 0 < r → number s (r - 1) < sfn
  pub behind : r < n → sfn ≤ number s r

-- what is known at the ends of the range
record Ends (s : Sheet) (n sfn low high : ℕ) : Type 0 where
  ordered : low ≤ high
  within : high ≤ n
  before : 0 < low → number s (low - 1) < sfn
  behind : high < n → sfn ≤ number s high

module _ (s : Sheet) (n sfn : ℕ) where
  -- what the middle entry shows is known at the end that moves there
  ends_more : (low high : ℕ) → Ends s n sfn low high → low < high → Ends s n sfn (half s sfn low high).low (half s sfn low high).high
  ends_more low high e l = elim (dec_le (suc (number s (middle low high))) sfn) [
    | yes h ↦ (let q : number s (middle low high + 1 - 1) ≡ number s (middle low high) = ap (number s) (omega arith) in
        rw (half_above s sfn low high h) record { ordered = omega arith; within = e.within; before = λ p. omega (arith, q); behind = e.behind })
    | no h ↦ rw (half_below s sfn low high (omega arith)) record { ordered = omega arith; within = omega (arith, e.within); before = e.before; behind = λ p. omega arith }
  ]

  ends_first : (low high : ℕ) → Ends s n sfn low high → high ≤ low → First s n sfn low
  ends_first low high e l =
      let q : low ≡ high = omega (arith, e.ordered) in
      record { within = omega (arith, e.within); before = e.before; behind = λ p. rw q (e.behind (omega arith)) }

  closing_first : (k low high : ℕ) → high - low ≤ k → Ends s n sfn low high → First s n sfn (closing k s sfn low high)
  closing_first zero low high m e = rw (closing_done s sfn low high 0 (omega arith)) (ends_first low high e (omega arith))
  closing_first (suc k) low high m e = elim (dec_le (suc low) high) [
    | yes l ↦ rw (closing_more s sfn low high k l)
        (closing_first k (half s sfn low high).low (half s sfn low high).high (omega (arith, half_smaller s sfn low high l)) (ends_more low high e l))
    | no l ↦ rw (closing_done s sfn low high (suc k) (omega arith)) (ends_first low high e (omega arith))
  ]

  -- from an entry on, where the one before it is below sfn
  pub closed_first : (i : ℕ) → i ≤ n → (0 < i → number s (i - 1) < sfn) → First s n sfn (closing (n - i) s sfn i n)
  closed_first i l before = closing_first (n - i) i n (omega arith) record { ordered = l; within = omega arith; before = before; behind = λ h. absurd (omega arith) }

  pub first_from_law : First s n sfn (first_from s n sfn)
  unfolding first_from
  first_from_law = closing_first n 0 n (omega arith) record { ordered = omega arith; within = omega arith; before = λ h. absurd (omega arith); behind = λ h. absurd (omega arith) }
