-- What a glance at the entries shows, and that they are accepted where it shows nothing odd. Assumes nothing.
use mathlib.Core.Path.{◌≡◌, refl, sym, ap, ◌∙◌}
use mathlib.Core.Bool.{Bool, true, false, not, ◌&&◌, true≢false}
use mathlib.Core.List.{List}
use Prim.Native.Nat.{ℕ, zero, suc, ◌+◌, ◌≤◌, ◌<◌}
use native.Mathlib.Numerals.{add-one}
use native.Mathlib.Decide.{dec_le}
use native.Mathlib.Omega.{arith}
use lib.Bits.{bit_or, bit_xor, and_le_l, and_le_r, or_add_and, xor_add_and, xor_self}
use lib.Dec.{ltb, eqb}
use borrow.Author.Tests.{le-ltb, ltb-true, eqb-true, eqb-false, eq-eqb, ne_eqb}
use Rattle.base.proofs.Bools.{not_no, and_true}
use Rattle.refusal.specs.declared.Refusal.{Refusal}
use Rattle.refusal.specs.First.{refuse, accept, ◌if◌else◌, first_of}
use Rattle.refusal.proofs.First.{or_else_none, first_accept, placed_number}
use Rattle.refusal.proofs.Calls.{if_no}
use Rattle.layout.specs.declared.Entry.{Entry}
use Rattle.layout.specs.declared.Layout.{Layout}
use Rattle.layout.specs.declared.Layout.TheVariants.{Rows, Columns}
use Rattle.layout.specs.Layout.{Sheet, stored, sheet_size}
use Rattle.layout.specs.Contents.{entry_of}
use Rattle.sheet.specs.Check.{number_before, end_before_entry, entry_fault, entries_verdict}
use Rattle.sheet.specs.inner.Glance.{every, sound, sound_at, ascends, meets, following, glanced}
use Rattle.sheet.proofs.Accepted.{entry_accept}

-- ---- the loops

module _ (test : ℕ → Bool) where
  pub every_next : (i : ℕ) (fine b : Bool) → fine ≡ every test i → b ≡ test i → (fine && b) ≡ every test (i + 1)
  unfolding every
  every_next i fine b e h = rw add-one (cc)

  pub every_end : (i n : ℕ) (fine : Bool) → fine ≡ every test i → i ≤ n → n ≤ i → fine ≡ every test n
  every_end i n fine e h k = e ∙ ap (every test) {x = i} {y = n} (omega arith)

  every_all : (n : ℕ) → every test n ≡ true → (i : ℕ) → i < n → test i ≡ true
  unfolding every
  every_all zero e i h = absurd (omega arith)
  every_all (suc n) e i h =
      let both = and_true (every test n) (test n) e in
      elim (dec_le n i) [ yes l ↦ ap test {x = i} {y = n} (omega arith) ∙ both.1 | no l ↦ every_all n both.0 i (omega arith) ]

-- what is read of entry i
pub read_sound : (s : Sheet) (i : ℕ) (e : Entry) (b : Bool) → e ≡ entry_of s i → b ≡ sound e.flags.0 e.length → b ≡ sound_at s i
unfolding entry_of
read_sound s i e b h k = k ∙ (λ j. sound (h j).flags.0 (h j).length)

-- a sum, and bits gathered, are 0 where all that went into them is
sum_zero : (a b : ℕ) → eqb (a + b) 0 ≡ (eqb a 0 && eqb b 0)
sum_zero zero b = ap (λ (x : ℕ). eqb x 0) {x = 0 + b} {y = b} (omega arith)
sum_zero (suc a) b = rw (ne_eqb (suc a + b) 0 (λ z. omega arith), ne_eqb (suc a) 0 (λ z. omega arith))

bits_none : (a b c : ℕ) → bit_or a (bit_xor b c) ≡ 0 → (a ≡ 0) × (b ≡ c)
bits_none a b c e =
    let x : ℕ = bit_xor b c in
    let n : (a ≡ 0) × (x ≡ 0) = (omega (arith, or_add_and a x, and_le_l a x, and_le_r a x), omega (arith, or_add_and a x, and_le_l a x, and_le_r a x)) in
    (n.0, omega (arith, n.1, xor_add_and b c, and_le_l b c, and_le_r b c))

bits_zero : (a b c : ℕ) → eqb (bit_or a (bit_xor b c)) 0 ≡ (eqb a 0 && eqb b c)
bits_zero a b c = go (eqb a 0) (eqb b c) refl refl
  where
    go : (x y : Bool) → eqb a 0 ≡ x → eqb b c ≡ y → eqb (bit_or a (bit_xor b c)) 0 ≡ (x && y)
    go true true e f = eq-eqb (bit_or a (bit_xor b c)) 0 (rw (eqb-true a 0 e, eqb-true b c f) (xor_self c))
    go true false e f = ne_eqb _ _ (λ z. eqb-false b c f (bits_none a b c z).1)
    go false y e f = ne_eqb _ _ (λ z. eqb-false a 0 e (bits_none a b c z).0)

-- what was gathered, carried on over entry i
module _ (s : Sheet) (i : ℕ) (e : Entry) (h : e ≡ entry_of s i) where
  pub lates_next : (lates r before : ℕ) → eqb lates 0 ≡ every (ascends s) i → before ≡ number_before s i → eqb r 0 ≡ ltb before e.number.0 → eqb (lates + r) 0 ≡ every (ascends s) (i + 1)
  unfolding entry_of
  lates_next lates r before f p k = sum_zero lates r ∙ every_next (ascends s) i (eqb lates 0) (eqb r 0) f (k ∙ (λ j. ltb (p j) (h j).number.0))

  pub apart_next : (apart end : ℕ) → eqb apart 0 ≡ every (meets s) i → end ≡ end_before_entry s i → eqb (bit_or apart (bit_xor e.offset end)) 0 ≡ every (meets s) (i + 1)
  unfolding entry_of
  apart_next apart end f p = bits_zero apart e.offset end ∙ every_next (meets s) i (eqb apart 0) (eqb e.offset end) f (λ j. eqb (h j).offset (p j))

-- behind the last one
pub following_end : (s : Sheet) (n i end : ℕ) (a b : Bool) → a ≡ every (ascends s) i → b ≡ every (meets s) i → end ≡ end_before_entry s i → i ≤ n → n ≤ i
    → (eqb (sheet_size s) end && a && b) ≡ following s n
following_end s n i end a b f g h k l =
    let m : n ≡ i = omega arith in
    rw m (cc)

-- ---- nothing odd: accepted

module _ (s : Sheet) (n : ℕ) (sounds : every (sound_at s) n ≡ true) (follow : following s n ≡ true) where
  parts : (eqb (sheet_size s) (end_before_entry s n) ≡ true) × (every (ascends s) n ≡ true) × (every (meets s) n ≡ true)
  parts =
      let a = and_true (eqb (sheet_size s) (end_before_entry s n) && every (ascends s) n) (every (meets s) n) follow in
      let b = and_true (eqb (sheet_size s) (end_before_entry s n)) (every (ascends s) n) a.0 in
      (b.0, b.1, a.1)

  entry_none : (i : ℕ) → i < n → (entry_fault s i).number ≡ 0
  unfolding entry_fault sound
  entry_none i h =
      let a = and_true _ _ (every_all (sound_at s) n sounds i h) in
      placed_number _ (suc i) ∙ ap (λ (r : Refusal). r.number) (entry_accept _ _ _ _ _ _ record {
        above = ltb-true _ _ (every_all (ascends s) n parts.1 i h);
        legal = eqb-true _ _ a.0;
        four = eqb-true _ _ a.1;
        follows = eqb-true _ _ (every_all (meets s) n parts.2 i h);
      })

  none_refused : entries_verdict s n ≡ accept
  none_refused =
      let none : first_of (entry_fault s) 0 n ≡ accept = first_accept (entry_fault s) 0 n (λ i l h. entry_none i (omega arith)) in
      rw none (or_else_none accept (refuse 8 if not (eqb (sheet_size s) (end_before_entry s n)) else accept) refl ∙ if_no _ _ _ (not_no _ parts.0))

pub glance_accepts : (s : Sheet) (n : ℕ) → glanced s n ≡ true → entries_verdict s n ≡ accept
unfolding glanced
glance_accepts s n e = go s.layout (and_true (not (ltb n 32)) _ e).1
  where
    go : (l : Layout) → elim l [ Rows ↦ false | Columns ↦ every (sound_at s) n && following s n ] ≡ true → entries_verdict s n ≡ accept
    go Rows g = absurd (true≢false (sym g))
    go Columns g = let both = and_true (every (sound_at s) n) (following s n) g in none_refused s n both.0 both.1

-- how it is cast
glanced_in : (x : List ℕ) (n : ℕ) → 32 ≤ n → glanced (stored Columns x) n ≡ (every (sound_at (stored Columns x)) n && following (stored Columns x) n)
unfolding glanced
glanced_in x n h = rw (le-ltb n 32 h)

pub glanced_columns : (lay : Layout) (x : List ℕ) (n : ℕ) (a b : Bool) → lay ≡ Columns → 32 ≤ n → a ≡ every (sound_at (stored Columns x)) n → b ≡ following (stored Columns x) n → (a && b) ≡ glanced (stored lay x) n
glanced_columns lay x n a b l h e f = rw l ((λ j. e j && f j) ∙ sym (glanced_in x n h))
