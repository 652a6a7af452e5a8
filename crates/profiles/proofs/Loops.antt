-- The loops over records: a return, a further turn, the end. Assumes nothing.
use borrow.Author.Tests.{le-ltb, ltb-false, eq-eqb, ne_eqb, eqb-true, eqb-false}
use mathlib.Core.Bool.{Bool, true, false, not, ◌||◌}
use mathlib.Core.Path.{◌≡◌, refl, sym, ap, ◌∙◌}
use mathlib.Core.List.{List, ◌∷◌}
use Prim.Native.Nat.{ℕ, zero, suc, ◌+◌, ◌-◌, ◌*◌, ◌/◌, ◌%◌, ◌≤◌, ◌<◌, min}
use native.Mathlib.Numerals.{add-one}
use native.Mathlib.Decide.{dec_le}
use native.Mathlib.Omega.{arith}
use lib.Dec.{ltb, eqb}
use lib.ListN.{get_or}
use Rattle.base.specs.Lists.{each}
use Rattle.fields.specs.Field.{field}
use Rattle.fields.proofs.Laws.{field_one, field_last}
use Rattle.refusal.specs.declared.Refusal.{Refusal}
use Rattle.refusal.specs.First.{refuse, accept, ◌if◌else◌, placed}
use Rattle.refusal.proofs.First.{placed_none}
use Rattle.text.specs.Response.{current_profile}
use Rattle.text.proofs.Profiles.{current_on, current_off}
use Rattle.profiles.specs.Profiles.{profile_number, profile_current, profile_last, listed, lists, record_rule, record_fault, stopped}
use Rattle.profiles.specs.inner.Within.{Within}
use Rattle.profiles.proofs.Stopped.{stopped_placed}

-- ---- a number among the records

pub lists_yes : (m : ℕ) (b : List ℕ) (i k : ℕ) → profile_number b i ≡ m → lists m b i (suc k) ≡ true
unfolding lists
lists_yes m b i k e = rw (eq-eqb (profile_number b i) m e, lists)

pub lists_no : (m : ℕ) (b : List ℕ) (i k : ℕ) → (profile_number b i ≡ m → ⊥) → lists m b i (suc k) ≡ lists m b (suc i) k
unfolding lists
lists_no m b i k h = rw (ne_eqb (profile_number b i) m h, lists)

module _ (w : Bool) (m : ℕ) (b : List ℕ) (n i : ℕ) (e : w ≡ lists m b i (n - i)) where
  lists_step : i < n → w ≡ lists m b i (suc (n - suc i))
  lists_step h = e ∙ ap (lists m b i) (omega arith)

  pub lists_stop : (x : ℕ) → i < n → x ≡ field 2 b (4 * i) → x ≡ m → true ≡ w
  unfolding profile_number
  lists_stop x h p q = sym (lists_step h ∙ lists_yes m b i (n - suc i) (sym p ∙ q))

  pub lists_go : (x : ℕ) → i < n → x ≡ field 2 b (4 * i) → (x ≡ m → ⊥) → w ≡ lists m b (i + 1) (n - (i + 1))
  unfolding profile_number
  lists_go x h p q = rw add-one (lists_step h ∙ lists_no m b i (n - suc i) (λ z. q (p ∙ z)))

  pub lists_none : n ≤ i → false ≡ w
  unfolding lists
  lists_none h = sym (e ∙ ap (lists m b i) {x = n - i} {y = 0} (omega arith))

-- with what was found so far
or_step : (f t l : Bool) → (f || elim t [ true ↦ true | false ↦ l ]) ≡ ((f || t) || l)
or_step true t l = refl
or_step false true l = refl
or_step false false l = refl

or_none : (f : Bool) → (f || false) ≡ f
or_none true = refl
or_none false = refl

-- two bytes as a number the first of which is the lowest: the field that they are, and that two such are the same where the fields are
two_field : (b : List ℕ) (at x : ℕ) → (x % 256 ≡ get_or b at 0) × (x / 256 ≡ get_or b (at + 1) 0) → field 2 b at ≡ x % 256 * 256 + x / 256
two_field b at x p = omega (arith, field_last 1 b at, field_one b at, p.0, p.1)

two_same : (x y : ℕ) → x < 65536 → y < 65536 → eqb x y ≡ eqb (x % 256 * 256 + x / 256) (y % 256 * 256 + y / 256)
two_same x y l k = go (eqb x y) refl
  where
    go : (z : Bool) → eqb x y ≡ z → z ≡ eqb (x % 256 * 256 + x / 256) (y % 256 * 256 + y / 256)
    go true h = sym (eq-eqb _ _ (ap (λ (k : ℕ). k % 256 * 256 + k / 256) (eqb-true x y h)))
    go false h = sym (ne_eqb (x % 256 * 256 + x / 256) (y % 256 * 256 + y / 256) (λ q. eqb-false x y h (omega (arith, q, l, k))))

module _ (w f : Bool) (m : ℕ) (b : List ℕ) (n i : ℕ) (e : w ≡ (f || lists m b i (n - i))) where
  pub seen_go : (x : ℕ) (r : Bool) → i < n → x ≡ field 2 b (4 * i) → r ≡ (f || eqb x m) → w ≡ (r || lists m b (i + 1) (n - (i + 1)))
  unfolding profile_number lists
  seen_go x r h p q =
      let k : n - i ≡ suc (n - suc i) = omega arith in
      rw (add-one, q, p) (e ∙ ap (λ (j : ℕ). f || lists m b i j) k ∙ or_step f (eqb (field 2 b (4 * i)) m) (lists m b (suc i) (n - suc i)))

  pub seen_end : n ≤ i → f ≡ w
  unfolding lists
  seen_end h = sym (e ∙ ap (λ (j : ℕ). f || lists m b i j) {x = n - i} {y = 0} (omega arith) ∙ or_none f)

-- the same by two bytes at a time
pub two_go : (w f : Bool) (y : ℕ) (b : List ℕ) (n i : ℕ) → w ≡ (f || lists (y % 256 * 256 + y / 256) b i (n - i)) → (x : ℕ) (r : Bool) → i < n → x < 65536 → y < 65536 → (x % 256 ≡ get_or b (4 * i) 0) × (x / 256 ≡ get_or b (4 * i + 1) 0) → r ≡ (f || eqb x y)
    → w ≡ (r || lists (y % 256 * 256 + y / 256) b (i + 1) (n - (i + 1)))
two_go w f y b n i e x r h l k p q = seen_go w f (y % 256 * 256 + y / 256) b n i e (x % 256 * 256 + x / 256) r h (sym (two_field b (4 * i) x p)) (q ∙ ap (λ (z : Bool). f || z) (two_same x y l k))

-- none of the records has a number that they all differ from
lists_nowhere : (m : ℕ) (b : List ℕ) (i k : ℕ) → ((j : ℕ) → j < i + k → profile_number b j ≡ m → ⊥) → lists m b i k ≡ false
unfolding lists
lists_nowhere m b i zero h = refl
lists_nowhere m b i (suc k) h = lists_no m b i k (h i (omega arith)) ∙ lists_nowhere m b (suc i) k (λ j l. h j (omega (arith, l)))

module _ (low high : ℕ) (b : List ℕ) (n : ℕ) (w : Within low high b n) where
  pub lists_below : (m : ℕ) → m < low → false ≡ lists m b 0 n
  lists_below m h = sym (lists_nowhere m b 0 n (λ j l e. omega (arith, w.above j (omega (arith, l)), e, h)))

  pub lists_above : (m : ℕ) → high < m → false ≡ lists m b 0 n
  lists_above m h = sym (lists_nowhere m b 0 n (λ j l e. omega (arith, w.below j (omega (arith, l)), e, h)))

-- no record, and one more
pub within_none : (low high : ℕ) (b : List ℕ) → Within low high b 0
within_none low high b = record { above = λ j l. absurd (omega (arith, l)); below = λ j l. absurd (omega (arith, l)) }

pub within_more : (low high : ℕ) (b : List ℕ) (i x lo hi : ℕ) → Within low high b i → x ≡ field 2 b (4 * i) → lo ≡ min low x → hi ≡ high + (x - high) → Within lo hi b (i + 1)
unfolding profile_number
within_more low high b i x lo hi w e l h = record {
  above =
      λ j k.
      elim (dec_le (suc j) i) [
        | yes m ↦ omega (arith, l, w.above j m)
        | no m ↦ omega (arith, l, e, ap (λ (n : ℕ). field 2 b (4 * n)) {x = j} {y = i} (omega (arith, k, m)))
      ];
  below =
      λ j k.
      elim (dec_le (suc j) i) [
        | yes m ↦ omega (arith, h, w.below j m)
        | no m ↦ omega (arith, h, e, ap (λ (n : ℕ). field 2 b (4 * n)) {x = j} {y = i} (omega (arith, k, m)))
      ];
}

-- ---- the current profile

module _ (w : ℕ) (b : List ℕ) (n i : ℕ) (e : w ≡ current_profile (each (listed b) i (n - i))) where
  current_step : i < n → w ≡ current_profile (listed b i ∷ each (listed b) (i + 1) (n - (i + 1)))
  unfolding each
  current_step h = e ∙ ap (λ (k : ℕ). current_profile (each (listed b) i k)) {x = n - i} {y = suc (n - suc i)} (omega arith) ∙ rw add-one

  pub current_stop : (x r : ℕ) → i < n → x ≡ get_or b (4 * i + 2) 0 → x % 2 ≡ 1 → r ≡ field 2 b (4 * i) → r ≡ w
  unfolding listed profile_number profile_current
  current_stop x r h p k q =
      q ∙ sym (current_step h ∙ current_on (listed b i) (each (listed b) (i + 1) (n - (i + 1))) (eq-eqb _ _ (ap (λ (y : ℕ). y % 2) (sym p) ∙ k)))

  pub current_go : (x : ℕ) → i < n → x ≡ get_or b (4 * i + 2) 0 → (x % 2 ≡ 1 → ⊥) → w ≡ current_profile (each (listed b) (i + 1) (n - (i + 1)))
  unfolding listed profile_current
  current_go x h p k =
      current_step h ∙ current_off (listed b i) (each (listed b) (i + 1) (n - (i + 1))) (ne_eqb _ _ (λ z. k (ap (λ (y : ℕ). y % 2) p ∙ z)))

  pub current_none : n ≤ i → 0 ≡ w
  unfolding each current_profile
  current_none h = sym (e ∙ ap (λ (k : ℕ). current_profile (each (listed b) i k)) {x = n - i} {y = 0} (omega arith))

-- ---- a record, judged at its place, which stops at 65,535

record_placed : (b : List ℕ) (i x y z : ℕ) (w : Bool) (r v : Refusal) → x ≡ field 2 b (4 * i) → w ≡ lists x b 0 i → y ≡ get_or b (4 * i + 2) 0 → z ≡ get_or b (4 * i + 3) 0
    → r ≡ record_rule x w y z → (p : ℕ) → p ≡ min (i + 1) 65535 → v ≡ placed r p → v ≡ stopped (record_fault b i)
unfolding record_fault profile_number profile_current profile_last
record_placed b i x y z w r v ex ew ey ez k p n q =
    q ∙ ap (placed r) n ∙ stopped_placed r (i + 1)
    ∙ rw add-one (ap (λ (a : Refusal). stopped (placed a (suc i))) (k ∙ (λ j. record_rule (ex j) ((ew ∙ ap (λ (n : ℕ). lists n b 0 i) ex) j) (ey j) (ez j))))

-- by the byte with CurrentP and the last one as a number the first of which is the lowest
module _ (b : List ℕ) (i t : ℕ) (e : (t % 256 ≡ get_or b (4 * i + 2) 0) × (t / 256 ≡ get_or b (4 * i + 2 + 1) 0)) where
  last_here : t / 256 ≡ get_or b (4 * i + 3) 0
  last_here = e.1 ∙ ap (λ (k : ℕ). get_or b k 0) (omega arith)

  -- one of them is wrong
  spoilt_rule : 1 < t → (x : ℕ) (w : Bool) → refuse 3 ≡ record_rule x w (t % 256) (t / 256)
  unfolding record_rule ◌if◌else◌
  spoilt_rule l x w = go (eqb x 0) w (ltb 1 (t % 256)) refl (eqb (t / 256) 0) refl
    where
      go : (a w c : Bool) → ltb 1 (t % 256) ≡ c → (d : Bool) → eqb (t / 256) 0 ≡ d → refuse 3 ≡ (refuse 3 if a else refuse 3 if w else refuse 3 if c else refuse 3 if not d else accept)
      go true w c f d g = refl
      go false true c f d g = refl
      go false false true f d g = refl
      go false false false f false g = refl
      go false false false f true g = absurd (omega (arith, ltb-false 1 (t % 256) f, eqb-true (t / 256) 0 g, l))

  -- neither is
  plain_rule : t ≤ 1 → (x : ℕ) (w : Bool) → record_rule x w 0 0 ≡ record_rule x w (t % 256) (t / 256)
  unfolding record_rule
  plain_rule l x w = rw (le-ltb 1 (t % 256) (omega arith), eq-eqb (t / 256) 0 (omega arith))

  pub record_spoilt : 1 < t → (p : ℕ) (v : Refusal) → p ≡ min (i + 1) 65535 → v ≡ placed (refuse 3) p → v ≡ stopped (record_fault b i)
  record_spoilt l p v n q = record_placed b i (field 2 b (4 * i)) (t % 256) (t / 256) (lists (field 2 b (4 * i)) b 0 i) (refuse 3) v refl refl e.0 last_here (spoilt_rule l _ _) p n q

  pub record_judged : t ≤ 1 → (x : ℕ) (w : Bool) → x ≡ field 2 b (4 * i) → w ≡ lists x b 0 i → (r v : Refusal) → r ≡ record_rule x w 0 0 → (p : ℕ) → p ≡ min (i + 1) 65535 → v ≡ placed r p → v ≡ stopped (record_fault b i)
  record_judged l x w ex ew r v k p n q = record_placed b i x (t % 256) (t / 256) w r v ex ew e.0 last_here (k ∙ plain_rule l x w) p n q

  -- with the number looked for as its two bytes stand
  pub record_seen : t ≤ 1 → (x y : ℕ) (w : Bool) → x ≡ field 2 b (4 * i) → (y % 256 ≡ get_or b (4 * i) 0) × (y / 256 ≡ get_or b (4 * i + 1) 0) → w ≡ lists (y % 256 * 256 + y / 256) b 0 i
      → (r v : Refusal) → r ≡ record_rule x w 0 0 → (p : ℕ) → p ≡ min (i + 1) 65535 → v ≡ placed r p → v ≡ stopped (record_fault b i)
  record_seen l x y w ex ey ew = record_judged l x w ex (ew ∙ ap (λ (k : ℕ). lists k b 0 i) (sym (two_field b (4 * i) y ey) ∙ sym ex))

  -- a number above all before it is new, and not 0
  above_rule : (x : ℕ) → 0 < x → record_rule x false 0 0 ≡ accept
  unfolding record_rule ◌if◌else◌
  above_rule x h = rw (ne_eqb x 0 (λ q. omega arith))

  pub record_above : t ≤ 1 → (low high x : ℕ) → Within low high b i → x ≡ field 2 b (4 * i) → high < x → accept ≡ stopped (record_fault b i)
  record_above l low high x h ex m =
      let p : ℕ = min (i + 1) 65535 in
      record_judged l x false ex (lists_above low high b i h x m) accept accept (sym (above_rule x (omega arith))) p refl (sym (placed_none accept p refl))
