-- Lists of numbers: one that ascends, a number in a list, numbers that are not. Assumes nothing.
use mathlib.Core.Path.{◌≡◌, refl, sym, ap, ◌∙◌}
use mathlib.Core.Logic.{⊎_elim}
use mathlib.Core.Bool.{Bool, true, false, not, ◌&&◌, true≢false}
use mathlib.Core.List.{List, [], ◌∷◌, map}
use Prim.Native.Nat.{ℕ, zero, suc, ◌+◌, ◌-◌, ◌≤◌, ◌<◌}
use native.Mathlib.Numerals.{add-one}
use native.Mathlib.Omega.{arith}
use borrow.Author.Tests.{ltb-true, lt-ltb, le-ltb, eqb-true, eq-eqb, ne_eqb, not-true, not-false}
use lib.Dec.{ltb, eqb}
use lib.ListN.{length, get_or, drop, drop_of_length-le, length-drop}
use lib.Seq.{drop-cons}
use Rattle.base.specs.Lists.{each}
use Rattle.base.specs.Pick.{pick, some}
use Rattle.base.proofs.Compare.{le_or_lt}
use Rattle.base.proofs.Lists.{length_each, get_d_each}
use Rattle.load.specs.Load.{is_in, ascends, lacks}

-- ---- one of a list passes a test

module _ (test : ℕ → Bool) where
  pub some_here : (l : List ℕ) (i : ℕ) → i < length l → test (get_or l i 0) ≡ true → some test l ≡ true
  unfolding pick
  some_here [] i h e = absurd (omega arith)
  some_here (x ∷ l) zero h e = rw (e, pick)
  some_here (x ∷ l) (suc i) h e = go (test x) refl (some_here l i (omega arith) e)
    where
      go : (t : Bool) → test x ≡ t → some test l ≡ true → some test (x ∷ l) ≡ true
      go true q r = rw (q, pick)
      go false q r = rw (q, pick) r

  pub some_none : (l : List ℕ) → ((i : ℕ) → i < length l → test (get_or l i 0) ≡ false) → some test l ≡ false
  unfolding pick
  some_none [] h = refl
  some_none (x ∷ l) h = rw (h 0 (omega arith), pick) (some_none l (λ i m. h (suc i) (omega arith)))

  pub none_of : (l : List ℕ) → some test l ≡ false → (i : ℕ) → i < length l → test (get_or l i 0) ≡ false
  none_of l e i h = go (test (get_or l i 0)) refl
    where
      go : (t : Bool) → test (get_or l i 0) ≡ t → test (get_or l i 0) ≡ false
      go true q = absurd (true≢false (sym (some_here l i h q) ∙ e))
      go false q = q

  -- where one is
  pub some_where : (l : List ℕ) → some test l ≡ true → ((i : ℕ) → i < length l → test (get_or l i 0) ≡ true → ⊥) → ⊥
  some_where l e h = true≢false (sym e ∙ some_none l (λ i m. go i m (test (get_or l i 0)) refl))
    where
      go : (i : ℕ) → i < length l → (t : Bool) → test (get_or l i 0) ≡ t → test (get_or l i 0) ≡ false
      go i m true q = absurd (h i m q)
      go i m false q = q

  -- a loop over the list
  pub some_step : (l : List ℕ) (i : ℕ) → i < length l → test (get_or l i 0) ≡ false → some test (drop i l) ≡ some test (drop (suc i) l)
  unfolding pick
  some_step l i h e = rw (drop-cons l i 0 h, e, pick)

  pub some_stop : (l : List ℕ) (i : ℕ) → i < length l → test (get_or l i 0) ≡ true → some test (drop i l) ≡ true
  unfolding pick
  some_stop l i h e = rw (drop-cons l i 0 h, e, pick)

  pub some_end : (l : List ℕ) (i : ℕ) → length l ≤ i → some test (drop i l) ≡ false
  unfolding pick
  some_end l i h = rw (drop_of_length-le l {i = i} h)

-- ---- a list that ascends

-- a loop over the list
pub ascends_step : (l : List ℕ) (i : ℕ) → suc i < length l → get_or l i 0 < get_or l (suc i) 0 → ascends (drop i l) ≡ ascends (drop (suc i) l)
unfolding ascends
ascends_step l i h e = rw (drop-cons l i 0 (omega arith), drop-cons l (suc i) 0 h, lt-ltb (get_or l i 0) (get_or l (suc i) 0) e)

pub ascends_stop : (l : List ℕ) (i : ℕ) → suc i < length l → get_or l (suc i) 0 ≤ get_or l i 0 → ascends (drop i l) ≡ false
unfolding ascends
ascends_stop l i h e = rw (drop-cons l i 0 (omega arith), drop-cons l (suc i) 0 h, le-ltb (get_or l i 0) (get_or l (suc i) 0) e)

pub ascends_end : (l : List ℕ) → length l ≤ 1 → ascends l ≡ true
unfolding ascends
ascends_end [] h = refl
ascends_end (a ∷ []) h = refl
ascends_end (a ∷ b ∷ l) h = absurd (omega arith)

and_first : (a b : Bool) → (a && b) ≡ true → a ≡ true
and_first true b e = refl
and_first false b e = absurd (true≢false (sym e))

and_second : (a b : Bool) → (a && b) ≡ true → b ≡ true
and_second true b e = e
and_second false b e = absurd (true≢false (sym e))

ascends_tail : (a : ℕ) (l : List ℕ) → ascends (a ∷ l) ≡ true → ascends l ≡ true
unfolding ascends
ascends_tail a [] e = refl
ascends_tail a (b ∷ l) e = and_second (ltb a b) (ascends (b ∷ l)) e

ascends_first : (a : ℕ) (l : List ℕ) → ascends (a ∷ l) ≡ true → (j : ℕ) → j < length l → a < get_or l j 0
unfolding ascends
ascends_first a [] e j h = absurd (omega arith)
ascends_first a (b ∷ l) e zero h = ltb-true a b (and_first (ltb a b) (ascends (b ∷ l)) e)
ascends_first a (b ∷ l) e (suc j) h =
    omega (arith, ltb-true a b (and_first (ltb a b) (ascends (b ∷ l)) e), ascends_first b l (and_second (ltb a b) (ascends (b ∷ l)) e) j (omega arith))

pub ascends_at : (l : List ℕ) → ascends l ≡ true → (i j : ℕ) → i < j → j < length l → get_or l i 0 < get_or l j 0
ascends_at [] e i j h k = absurd (omega arith)
ascends_at (a ∷ l) e i zero h k = absurd (omega arith)
ascends_at (a ∷ l) e zero (suc j) h k = ascends_first a l e j (omega arith)
ascends_at (a ∷ l) e (suc i) (suc j) h k = ascends_at l (ascends_tail a l e) i j (omega arith) (omega arith)

-- one in which no number is below or at the one before
pub ascends_all : (l : List ℕ) → ((i : ℕ) → suc i < length l → get_or l (suc i) 0 ≤ get_or l i 0 → ⊥) → ascends l ≡ true
unfolding ascends
ascends_all [] h = refl
ascends_all (a ∷ []) h = refl
ascends_all (a ∷ b ∷ l) h =
    let up : a < b = ⊎_elim (λ (q : b ≤ a). absurd (h 0 (omega arith) q)) (λ (q : a < b). q) (le_or_lt b a) in
    rw (lt-ltb a b up) (ascends_all (b ∷ l) (λ i m. h (suc i) (omega arith)))

-- ---- a number in a list

module _ (l : List ℕ) (n : ℕ) where
  pub in_at : (i : ℕ) → i < length l → get_or l i 0 ≡ n → is_in l n ≡ true
  unfolding is_in
  in_at i h e = some_here (λ (m : ℕ). eqb m n) l i h (eq-eqb (get_or l i 0) n e)

  pub in_nowhere : ((i : ℕ) → i < length l → get_or l i 0 ≡ n → ⊥) → is_in l n ≡ false
  unfolding is_in
  in_nowhere h = some_none (λ (m : ℕ). eqb m n) l (λ i k. ne_eqb (get_or l i 0) n (h i k))

  pub in_where : is_in l n ≡ true → ((i : ℕ) → i < length l → get_or l i 0 ≡ n → ⊥) → ⊥
  unfolding is_in
  in_where e h = some_where (λ (m : ℕ). eqb m n) l e (λ i k t. h i k (eqb-true (get_or l i 0) n t))

-- ---- numbers that are in no list

module _ (ms ns : List ℕ) where
  pub lacks_none : ((j : ℕ) → j < length ns → is_in ms (get_or ns j 0) ≡ true) → lacks ms ns ≡ false
  unfolding lacks
  lacks_none h = some_none (λ (n : ℕ). not (is_in ms n)) ns (λ j k. ap not (h j k))

  pub lacks_one : (j : ℕ) → j < length ns → is_in ms (get_or ns j 0) ≡ false → lacks ms ns ≡ true
  unfolding lacks
  lacks_one j k e = some_here (λ (n : ℕ). not (is_in ms n)) ns j k (ap not e)

  pub none_lacking : lacks ms ns ≡ false → (j : ℕ) → j < length ns → is_in ms (get_or ns j 0) ≡ true
  unfolding lacks
  none_lacking e j k = not-false (is_in ms (get_or ns j 0)) (none_of (λ (n : ℕ). not (is_in ms n)) ns e j k)

  pub lacking_where : lacks ms ns ≡ true → ((j : ℕ) → j < length ns → is_in ms (get_or ns j 0) ≡ false → ⊥) → ⊥
  unfolding lacks
  lacking_where e h = some_where (λ (n : ℕ). not (is_in ms n)) ns e (λ j k t. h j k (not-true (is_in ms (get_or ns j 0)) t))

-- ---- numbers that stand at indices

module _ (own : ℕ → ℕ) (count : ℕ) where
  pub each_has : (n i : ℕ) → i < count → own i ≡ n → is_in (each own 0 count) n ≡ true
  each_has n i h e =
      in_at (each own 0 count) n i (omega (arith, length_each own 0 count)) (get_d_each own 0 0 count i h ∙ ap own (omega arith) ∙ e)

  pub each_lacks : (n : ℕ) → ((i : ℕ) → i < count → own i ≡ n → ⊥) → is_in (each own 0 count) n ≡ false
  each_lacks n h =
      in_nowhere (each own 0 count) n (λ i l e.
      let m : i < count = omega (arith, length_each own 0 count) in
      h i m (sym (get_d_each own 0 0 count i m ∙ ap own (omega arith)) ∙ e))

pub map_each : {A : Type 0} (g : A → ℕ) (f : ℕ → A) (i k : ℕ) → map g (each f i k) ≡ each (λ (j : ℕ). g (f j)) i k
unfolding each
map_each g f i zero = refl
map_each g f i (suc k) = ap (λ (l : List ℕ). g (f i) ∷ l) (map_each g f (suc i) k)

-- ---- the loops: a return, a further turn, the end

module _ (test : ℕ → Bool) (w : Bool) (l : List ℕ) (i : ℕ) (e : w ≡ some test (drop i l)) where
  pub some_found : i < length l → test (get_or l i 0) ≡ true → true ≡ w
  some_found h t = sym (e ∙ some_stop test l i h t)

  pub some_more : i < length l → test (get_or l i 0) ≡ false → w ≡ some test (drop (i + 1) l)
  some_more h t = rw add-one (e ∙ some_step test l i h t)

  pub some_over : length l ≤ i → false ≡ w
  some_over h = sym (e ∙ some_end test l i h)

module _ (l : List ℕ) (i : ℕ) (one : 1 ≤ i) (e : ascends l ≡ ascends (drop (i - 1) l)) where
  next : suc (i - 1) ≡ i
  next = omega arith

  pub ascends_not : i < length l → get_or l i 0 ≤ get_or l (i - 1) 0 → false ≡ ascends l
  ascends_not h q = sym (e ∙ ascends_stop l (i - 1) (omega arith) (rw next q))

  pub ascends_on : i < length l → get_or l (i - 1) 0 < get_or l i 0 → ascends l ≡ ascends (drop (i + 1 - 1) l)
  ascends_on h q =
      let z : i + 1 - 1 ≡ suc (i - 1) = omega arith in
      rw z (e ∙ ascends_step l (i - 1) (omega arith) (rw next q))

  pub ascends_over : length l ≤ i → true ≡ ascends l
  ascends_over h = sym (e ∙ ascends_end (drop (i - 1) l) (omega (arith, length-drop (i - 1) l)))
