-- A copy by blocks: how far a block takes it. Assumes nothing.
use mathlib.Core.Path.{◌≡◌, refl, sym, ap, ◌∙◌}
use mathlib.Core.List.{List, ◌++◌, append_assoc, append-nil}
use Prim.Native.Nat.{ℕ, ◌+◌, ◌-◌, ◌≤◌}
use native.Mathlib.Omega.{arith}
use lib.ListN.{length, take, drop, length-append, length-drop, drop_of_length-le}
use lib.Seq.{take-length, take-take, take-add, take_at, take_all, drop-drop, length-take-le}
use Rattle.lent.specs.inner.Same.{Same}

-- at the start
pub same_start : (s d : List ℕ) → length d ≡ length s → Same s 0 d
same_start s d h = record { sized = h; front = refl }

-- up to an earlier index
pub same_less : {s d : List ℕ} {i : ℕ} (j : ℕ) → j ≤ i → Same s i d → Same s j d
same_less {s} {d} {i} j h q = record {
  sized = q.sized;
  front = sym (take-take j i d h) ∙ ap (take j) q.front ∙ take-take j i s h;
}

-- at the end
pub same_end : {s d : List ℕ} {i : ℕ} → length s ≤ i → Same s i d → d ≡ s
same_end {s} {d} {i} h q = sym (take_all i d (omega (arith, q.sized))) ∙ q.front ∙ take_all i s h

-- a block of n bytes b, taken from index i of s on, and put there over d
pub same_more : {s d b e : List ℕ} {i : ℕ} (n : ℕ) → Same s i d → i + n ≤ length s
    → b ≡ take (i + n - i) (drop i s)
    → e ≡ b
    → Same s (i + n) (take i d ++ (e ++ drop (i + n - i) (drop i d)))
same_more {s} {d} {b} {e} {i} n q h hb he =
    let m : i + n - i ≡ n = omega arith in
    let ee : e ≡ take n (drop i s) = he ∙ hb ∙ rw m in
    let lf : length (take (i + n) s) ≡ i + n = length-take-le (i + n) s h in
    let all : take i d ++ (e ++ drop (i + n - i) (drop i d)) ≡ take (i + n) s ++ drop (i + n) d =
    rw (m, ee, q.front, drop-drop n i d, take-add i n s) (sym (append_assoc (take i s) (take n (drop i s)) (drop (i + n) d))) in
    record {
      sized = ap length all ∙ omega (arith, length-append (take (i + n) s) (drop (i + n) d), lf, length-drop (i + n) d, q.sized);
      front = ap (take (i + n)) all ∙ take_at (take (i + n) s) (drop (i + n) d) (i + n) lf;
    }

-- all of s at once, over a buffer of its length
pub whole : (s d e : List ℕ) → length d ≡ length s → e ≡ take (length s) s ++ drop (length s) d → e ≡ s
whole s d e h k =
    let l : length d ≤ length s = omega (arith, h) in
    k ∙ rw (take-length, drop_of_length-le d l) (append-nil s)
