-- What the walk makes of the digits of a byte, and of a newline. Assumes nothing.
use borrow.Author.Tests.{lt-ltb, le-ltb, eq-eqb, ne_eqb}
use mathlib.Core.Path.{◌≡◌, refl, ap, ◌∙◌}
use mathlib.Core.Bool.{true, false}
use mathlib.Core.List.{List, [], ◌∷◌, ◌++◌}
use Prim.Native.Nat.{ℕ, suc, ◌+◌, ◌-◌, ◌/◌, ◌%◌, ◌≤◌, ◌<◌}
use native.Mathlib.Nat.{div-add-mod'}
use native.Mathlib.Numerals.{add-one}
use native.Mathlib.Omega.{arith}
use native.Mathlib.Decide.{dec_lt}
use lib.Dec.{eqb, ltb}
use Rattle.hex_text.specs.declared.Class.TheVariants.{Blank, Digit}
use Rattle.hex_text.specs.declared.State.{State}
use Rattle.hex_text.specs.Chars.{value, blank, is_a, past}
use Rattle.hex_text.specs.Front.{opened}
use Rattle.hex_text.specs.Steps.{on, halved, behind, digit, newline, char, step}
use Rattle.hex_text.specs.Printed.{figure, pair}
use Rattle.hex_text.proofs.Cases.{choose_yes, choose_no}
use Rattle.hex_text.proofs.Coming.{From, from_in, from_at, from_next, past_stop, past_one, Comes, then, one_on, one_byte}

-- the character c is a digit of the value v
pub record Figured (c v : ℕ) : Type 0 where
  pub worth : value c ≡ v
  pub inner : eqb c 10 ≡ false
  pub solid : blank c ≡ false

module _ (c v : ℕ) where
  figured_low : c ≡ 48 + v → v < 10 → Figured c v
  unfolding value blank
  figured_low e h =
      let z : c - 48 ≡ v = omega arith in
      record {
        worth = choose_no _ _ _ (le-ltb c 48 (omega arith)) ∙ choose_yes _ _ _ (lt-ltb c 58 (omega arith)) ∙ z;
        inner = ne_eqb c 10 (λ o. omega arith);
        solid =
            choose_no _ _ _ (ne_eqb c 32 (λ o. omega arith)) ∙ choose_no _ _ _ (ne_eqb c 9 (λ o. omega arith)) ∙ choose_no _ _ _ (ne_eqb c 13 (λ o. omega arith))
            ∙ ne_eqb c 58 (λ o. omega arith);
      }

  figured_high : c ≡ 87 + v → 10 ≤ v → v < 16 → Figured c v
  unfolding value blank
  figured_high e l h =
      let z : c - 87 ≡ v = omega arith in
      record {
        worth =
            choose_no _ _ _ (le-ltb c 48 (omega arith)) ∙ choose_no _ _ _ (le-ltb c 58 (omega arith)) ∙ choose_no _ _ _ (le-ltb c 65 (omega arith))
            ∙ choose_no _ _ _ (le-ltb c 71 (omega arith)) ∙ choose_no _ _ _ (le-ltb c 97 (omega arith)) ∙ choose_yes _ _ _ (lt-ltb c 103 (omega arith)) ∙ z;
        inner = ne_eqb c 10 (λ o. omega arith);
        solid =
            choose_no _ _ _ (ne_eqb c 32 (λ o. omega arith)) ∙ choose_no _ _ _ (ne_eqb c 9 (λ o. omega arith)) ∙ choose_no _ _ _ (ne_eqb c 13 (λ o. omega arith))
            ∙ ne_eqb c 58 (λ o. omega arith);
      }

pub figured : (v : ℕ) → v < 16 → Figured (figure v) v
unfolding figure
figured v h =
    elim (dec_lt v 10) [
      | yes k ↦ figured_low (figure v) v (choose_yes _ _ _ (lt-ltb v 10 k)) k
      | no k ↦ figured_high (figure v) v (choose_no _ _ _ (le-ltb v 10 (omega arith))) (omega arith) h
    ]

pub is_digit : (v : ℕ) → v < 16 → is_a Digit (figure v) ≡ true
unfolding is_a
is_digit v h = ap (λ (w : ℕ). ltb w 16) (figured v h).worth ∙ lt-ltb v 16 h

no_blank : (v : ℕ) → v < 16 → is_a Blank (figure v) ≡ false
unfolding is_a
no_blank v h = (figured v h).solid

-- the two digits of a byte
pub high : (b : ℕ) → b < 256 → b / 16 < 16
high b h = omega arith

pub low : (b : ℕ) → b % 16 < 16
low b = omega arith

-- ---- a character at or behind the start of the line's bytes

module _ {s : List ℕ} {i : ℕ} (q : State) (n : q.from ≤ i) where
  pub step_char : {c : ℕ} {r : List ℕ} → From s i (c ∷ r) → step q s i ≡ char q c s i
  unfolding step
  step_char f = choose_no _ _ _ (le-ltb i q.from n) ∙ ap (λ (c : ℕ). char q c s i) (from_at f)

  step_digit : {v : ℕ} {r : List ℕ} → v < 16 → From s i (figure v ∷ r) → step q s i ≡ digit q v
  unfolding char
  step_digit {v} h f =
      let g = figured v h in
      let t : ltb (value (figure v)) 16 ≡ true = ap (λ (w : ℕ). ltb w 16) g.worth ∙ lt-ltb v 16 h in
      step_char f ∙ choose_no _ _ _ g.inner ∙ choose_yes _ _ _ t ∙ ap (digit q) g.worth

  pub step_newline : {r : List ℕ} → From s i (10 ∷ r) → q.half ≡ 16 → step q s i ≡ on (opened q.dump q.started s (suc i))
  unfolding char newline
  step_newline f h =
      step_char f ∙ choose_yes _ _ _ (eq-eqb 10 10 refl) ∙ choose_no _ _ _ (le-ltb q.half 16 (omega arith))
      ∙ ap (λ (j : ℕ). on (opened q.dump q.started s j)) (add-one i)

-- a byte
pub pair_comes : {s : List ℕ} {i b : ℕ} {q : State} {r : List ℕ} → q.from ≤ i → q.half ≡ 16 → b < 256 → From s i (pair b ++ r) → Comes s i q (b ∷ []) (suc (suc i)) (behind q)
unfolding digit
pair_comes {s} {i} {b} {q} {r} n h k f =
    let u : b / 16 < 16 = high b k in
    let p = halved q (b / 16) in
    let g = from_next f in
    let m : p.from ≤ suc i = omega arith in
    let first : Comes s i q [] (suc i) p = one_on (from_in f) (step_digit q n u f ∙ choose_no _ _ _ (le-ltb q.half 16 (omega arith))) in
    let e : step p s (suc i) ≡ record { fault = false; spells = true; byte = b; state = behind q } =
    step_digit p m (low b) g ∙ choose_yes _ _ _ (lt-ltb (b / 16) 16 u) ∙ ap (λ (x : ℕ). record { fault = false; spells = true; byte = x; state = behind q }) (div-add-mod' b 16) in
    then first (one_byte (from_in g) e)

-- its characters as they stand
module _ {s : List ℕ} {i b : ℕ} {r : List ℕ} (k : b < 256) (f : From s i (pair b ++ r)) where
  pub pair_next : From s (suc (suc i)) r
  pair_next = from_next (from_next f)

  pub past_pair : past Digit s i ≡ past Digit s (suc (suc i))
  past_pair = past_one f Digit (is_digit _ (high b k)) ∙ past_one (from_next f) Digit (is_digit _ (low b))

  pub pair_solid : past Blank s i ≡ i
  pair_solid = past_stop f Blank (no_blank _ (high b k))
