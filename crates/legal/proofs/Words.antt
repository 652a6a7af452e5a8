-- 36 by words: a word is under its mask exactly when each of its bytes is under its own. Assumes nothing.
use borrow.Author.Tests.{eqb-true, eqb-false, eq-eqb, ne_eqb}
use mathlib.Core.Path.{◌≡◌, refl, sym, ap, ◌∙◌}
use mathlib.Core.Bool.{Bool, true, false}
use mathlib.Core.List.{List, [], ◌∷◌, ◌++◌}
use Prim.Native.Nat.{ℕ, zero, suc, ◌+◌, ◌-◌, ◌*◌, ◌/◌, ◌%◌, ◌≤◌, ◌<◌}
use native.Mathlib.Nat.{add-zero, zero-add, mod-lt}
use native.Mathlib.Omega.{arith}
use lib.Bits.{bit_and, and_block, and_le_l, and_zero_l, and_zero_r}
use lib.Dec.{eqb}
use lib.ListN.{length, get_or, length-append, get_or-append, get_or-eq_default}
use lib.Seq.{get_or_at, get_or-append-add}
use Rattle.base.specs.Lists.{Bytes}
use Rattle.fields.specs.Field.{field, spell}
use Rattle.fields.proofs.Laws.{length_spell}
use Rattle.refusal.specs.declared.Refusal.{Refusal}
use Rattle.refusal.specs.First.{refuse, accept, ◌or_else◌, first_of}
use Rattle.refusal.proofs.First.{rest, or_else_none, or_else_fault, or_else_assoc, or_else_accept, or_else_plain, if_plain, first_accept}
use Rattle.legal.specs.declared.Masks.{Masks}
use Rattle.legal.specs.Legal.{mask_bytes}
use Rattle.legal.specs.Bodies.{reserved_rule}
use Rattle.legal.specs.inner.Periodic.{periodic_at, words_rule, words_at}
use Rattle.base.proofs.Bools.{not_yes, not_no}
use Rattle.refusal.proofs.Calls.{if_yes, if_no}

-- ---- one number under one mask

module _ (b m : ℕ) where
  pub within : bit_and b m ≡ b → reserved_rule b m ≡ accept
  unfolding reserved_rule
  within h = if_no _ _ _ (not_no _ (eq-eqb _ _ h))

  pub beyond : (bit_and b m ≡ b → ⊥) → reserved_rule b m ≡ refuse 36
  unfolding reserved_rule
  beyond h = if_yes _ _ _ (not_yes _ (ne_eqb _ _ h))

  pub reserved_plain : (reserved_rule b m).place ≡ 0
  unfolding reserved_rule
  reserved_plain = if_plain 36 _ accept refl

-- what reads as 0 is under any mask
pub zero_within : (b m : ℕ) → b ≡ 0 → reserved_rule b m ≡ accept
zero_within b m e = within b m (rw e (and_zero_l m))

-- a pad byte
pub pad_some : (b : ℕ) → (b ≡ 0 → ⊥) → refuse 36 ≡ reserved_rule b 0
pad_some b h = sym (beyond b 0 (λ z. h (sym z ∙ and_zero_r b)))

pub pad_none : (b : ℕ) → b ≡ 0 → accept ≡ reserved_rule b 0
pad_none b e = sym (zero_within b 0 e)

-- a byte behind a number, and a byte behind its mask
module _ (x a v : ℕ) (l : a < 256) where
  split_and : bit_and (x * 256 + a) v ≡ bit_and x (v / 256) * 256 + bit_and a (v % 256)
  split_and =
      let e : v ≡ v / 256 * 256 + v % 256 = omega arith in
      ap (bit_and (x * 256 + a)) e ∙ and_block 8 x (v / 256) a (v % 256) l (mod-lt v (omega arith))

  pub behind_byte : reserved_rule (x * 256 + a) v ≡ reserved_rule x (v / 256) or_else reserved_rule a (v % 256)
  behind_byte = go (eqb (bit_and x (v / 256)) x) (eqb (bit_and a (v % 256)) a) refl refl
    where
      go : (s t : Bool) → eqb (bit_and x (v / 256)) x ≡ s → eqb (bit_and a (v % 256)) a ≡ t
          → reserved_rule (x * 256 + a) v ≡ reserved_rule x (v / 256) or_else reserved_rule a (v % 256)
      go true true p q =
          let i : bit_and x (v / 256) ≡ x = eqb-true _ _ p in
          let j : bit_and a (v % 256) ≡ a = eqb-true _ _ q in
          within (x * 256 + a) v (omega (arith, split_and, i, j))
          ∙ sym (or_else_none _ _ (ap (λ (r : Refusal). r.number) (within x (v / 256) i)) ∙ within a (v % 256) j)
      go true false p q =
          let i : bit_and x (v / 256) ≡ x = eqb-true _ _ p in
          let j : bit_and a (v % 256) ≡ a → ⊥ = eqb-false _ _ q in
          beyond (x * 256 + a) v (λ z. j (omega (arith, split_and, i, z)))
          ∙ sym (or_else_none _ _ (ap (λ (r : Refusal). r.number) (within x (v / 256) i)) ∙ beyond a (v % 256) j)
      go false t p q =
          let i : bit_and x (v / 256) ≡ x → ⊥ = eqb-false _ _ p in
          let k : reserved_rule x (v / 256) ≡ refuse 36 = beyond x (v / 256) i in
          beyond (x * 256 + a) v (λ z. i (omega (arith, split_and, z, l, and_le_l x (v / 256), and_le_l a (v % 256))))
          ∙ sym (or_else_fault _ _ (λ z. absurd (omega (arith, z, ap (λ (r : Refusal). r.number) k))) ∙ k)

-- ---- a search, in parts

-- the same rules at other indices
pub first_same : (f g : ℕ → Refusal) (i j k : ℕ) → ((m : ℕ) → m < k → f (i + m) ≡ g (j + m)) → first_of f i k ≡ first_of g j k
unfolding first_of
first_same f g i j zero h = refl
first_same f g i j (suc k) h =
    let e : f i ≡ g j = ap f (sym (add-zero i)) ∙ h 0 (omega arith) ∙ ap g (add-zero j) in
    let r : first_of f (suc i) k ≡ first_of g (suc j) k
    = first_same f g (suc i) (suc j) k (λ m l. ap f (omega arith) ∙ h (suc m) (omega arith) ∙ ap g (omega arith)) in
    rw (e, r)

pub first_from_law : (g f : ℕ → Refusal) (j k : ℕ) → ((m : ℕ) → m < k → g m ≡ f (j + m)) → first_of g 0 k ≡ first_of f j k
first_from_law g f j k h =
    first_same g f 0 j k
    (λ m l.
    let z : 0 + m ≡ m = omega arith in
    ap g z ∙ h m l)

pub first_split : (f : ℕ → Refusal) (i a b : ℕ) → first_of f i (a + b) ≡ first_of f i a or_else first_of f (i + a) b
unfolding first_of
first_split f i zero b =
    let z : 0 + b ≡ b = omega arith in
    let j : i ≡ i + 0 = omega arith in
    ap (first_of f i) z ∙ sym (or_else_none accept (first_of f i b) refl) ∙ ap (λ (n : ℕ). accept or_else first_of f n b) j
first_split f i (suc a) b =
    let e : first_of f (suc i) (a + b) ≡ first_of f (suc i) a or_else first_of f (suc i + a) b = first_split f (suc i) a b in
    let j : suc i + a ≡ i + suc a = omega arith in
    let t : suc a + b ≡ suc (a + b) = omega arith in
    ap (first_of f i) t
    ∙ ap (λ (r : Refusal). f i or_else r) (e ∙ ap (λ (n : ℕ). first_of f (suc i) a or_else first_of f n b) j)
    ∙ sym (or_else_assoc (f i) (first_of f (suc i) a) (first_of f (i + suc a) b))

pub first_plain : (f : ℕ → Refusal) → ((i : ℕ) → (f i).place ≡ 0) → (i k : ℕ) → (first_of f i k).place ≡ 0
unfolding first_of
first_plain f h i zero = refl
first_plain f h i (suc k) = or_else_plain (f i) (first_of f (suc i) k) (h i) (first_plain f h (suc i) k)

first_one : (f : ℕ → Refusal) (i j : ℕ) → (f i).place ≡ 0 → i ≡ j → f i ≡ first_of f j 1
unfolding first_of
first_one f i j h e = sym (or_else_accept (f i) h) ∙ ap (λ (n : ℕ). first_of f n 1) e

-- ---- a word of any width

module _ (s : List ℕ) (u : Bytes s) (at : ℕ) where
  abbrev byte_rule : (w v j : ℕ) → Refusal
  byte_rule w v j = reserved_rule (get_or s (at + j) 0) (get_or (spell w v) j 0)

  pub word_first : (w v : ℕ) → reserved_rule (field w s at) v ≡ first_of (byte_rule w v) 0 w
  unfolding field spell first_of
  word_first zero v = zero_within 0 v refl
  word_first (suc w) v =
      let n : length (spell w (v / 256)) ≡ w = length_spell w (v / 256) in
      let front : first_of (byte_rule w (v / 256)) 0 w ≡ first_of (byte_rule (suc w) v) 0 w
      = first_same (byte_rule w (v / 256)) (byte_rule (suc w) v) 0 0 w
      (λ m l. ap (reserved_rule (get_or s (at + (0 + m)) 0)) (sym (get_or-append (spell w (v / 256)) (v % 256 ∷ []) 0 (0 + m) (omega arith)))) in
      let last : reserved_rule (get_or s (at + w) 0) (v % 256) ≡ byte_rule (suc w) v w
      = ap (reserved_rule (get_or s (at + w) 0)) (sym (get_or_at (spell w (v / 256)) (v % 256) [] 0 w n)) in
      let t : w + 1 ≡ suc w = omega arith in
      behind_byte (field w s at) (get_or s (at + w) 0) v (u (at + w))
      ∙ ap (λ (r : Refusal). r or_else reserved_rule (get_or s (at + w) 0) (v % 256)) (word_first w (v / 256) ∙ front)
      ∙ ap (λ (r : Refusal). first_of (byte_rule (suc w) v) 0 w or_else r) (last ∙ first_one (byte_rule (suc w) v) w (0 + w) (reserved_plain _ _) (omega arith))
      ∙ sym (first_split (byte_rule (suc w) v) 0 w 1)
      ∙ ap (first_of (byte_rule (suc w) v) 0) t

-- ---- twelve bytes

module _ (m : Masks) where
  abbrev a4 : List ℕ
  a4 = spell 4 m.0

  abbrev b4 : List ℕ
  b4 = spell 4 m.1

  abbrev c4 : List ℕ
  c4 = spell 4 m.2

  pub mask_a : (j : ℕ) → j < 4 → get_or (mask_bytes m) j 0 ≡ get_or (spell 4 m.0) j 0
  unfolding mask_bytes
  mask_a j h =
      let l : length a4 ≡ 4 = length_spell 4 m.0 in
      let k : length (a4 ++ b4) ≡ 8 = length-append a4 b4 ∙ omega (arith, l, length_spell 4 m.1) in
      get_or-append (a4 ++ b4) c4 0 j (omega arith) ∙ get_or-append a4 b4 0 j (omega arith)

  mask_b : (j : ℕ) → j < 4 → get_or (mask_bytes m) (4 + j) 0 ≡ get_or (spell 4 m.1) j 0
  unfolding mask_bytes
  mask_b j h =
      let l : length a4 ≡ 4 = length_spell 4 m.0 in
      let k : length (a4 ++ b4) ≡ 8 = length-append a4 b4 ∙ omega (arith, l, length_spell 4 m.1) in
      get_or-append (a4 ++ b4) c4 0 (4 + j) (omega arith)
      ∙ ap (λ (n : ℕ). get_or (a4 ++ b4) (n + j) 0) (sym l) ∙ get_or-append-add a4 b4 j 0

  mask_c : (j : ℕ) → j < 4 → get_or (mask_bytes m) (8 + j) 0 ≡ get_or (spell 4 m.2) j 0
  unfolding mask_bytes
  mask_c j h =
      let l : length a4 ≡ 4 = length_spell 4 m.0 in
      let k : length (a4 ++ b4) ≡ 8 = length-append a4 b4 ∙ omega (arith, l, length_spell 4 m.1) in
      ap (λ (n : ℕ). get_or (a4 ++ b4 ++ c4) (n + j) 0) (sym k) ∙ get_or-append-add (a4 ++ b4) c4 j 0

module _ (m : Masks) (s : List ℕ) where
  -- the word at a place of the twelve
  word_of : Bytes s → (k p v : ℕ) → k % 12 ≡ 0 → p ≤ 8 → ((j : ℕ) → j < 4 → get_or (mask_bytes m) (p + j) 0 ≡ get_or (spell 4 v) j 0)
      → reserved_rule (field 4 s (k + p)) v ≡ first_of (periodic_at m s) (k + p) 4
  unfolding periodic_at
  word_of u k p v e h q =
      word_first s u (k + p) 4 v
      ∙ first_from_law _ (periodic_at m s) (k + p) 4
      (λ j l.
      let t : (k + p + j) % 12 ≡ p + j = omega (arith, e, h, l) in
      rw t (ap (reserved_rule (get_or s (k + p + j) 0)) (sym (q j l))))

  -- twelve bytes are three words
  pub words_first : Bytes s → (k : ℕ) → k % 12 ≡ 0 → words_at m s k ≡ first_of (periodic_at m s) k 12
  unfolding words_at words_rule
  words_first u k e =
      let z : k + 0 ≡ k = add-zero k in
      let a : reserved_rule (field 4 s k) m.0 ≡ first_of (periodic_at m s) k 4
      = rw z at (word_of u k 0 m.0 e (omega arith) (λ j l. ap (λ (n : ℕ). get_or (mask_bytes m) n 0) (zero-add j) ∙ mask_a m j l)) in
      let b = word_of u k 4 m.1 e (omega arith) (mask_b m) in
      let c = word_of u k 8 m.2 e (omega arith) (mask_c m) in
      let t : k + 4 + 4 ≡ k + 8 = omega arith in
      rw (a, b, c)
      (sym (first_split (periodic_at m s) k 4 8
      ∙ ap (λ (r : Refusal). first_of (periodic_at m s) k 4 or_else r) (first_split (periodic_at m s) (k + 4) 4 4 ∙ ap (λ (n : ℕ). first_of (periodic_at m s) (k + 4) 4 or_else first_of (periodic_at m s) n 4) t)))

  -- behind the end nothing breaks a rule
  behind_none : (k n : ℕ) → length s ≤ k → first_of (periodic_at m s) k n ≡ accept
  unfolding periodic_at
  behind_none k n h =
      first_accept (periodic_at m s) k n (λ j l i. ap (λ (r : Refusal). r.number) (zero_within (get_or s j 0) _ (get_or-eq_default s 0 (omega arith))))

  periodic_plain : (k : ℕ) → (periodic_at m s k).place ≡ 0
  unfolding periodic_at
  periodic_plain k = reserved_plain _ _

-- ---- the walk by twelve bytes, at a place with the answer r: a return, a further turn, the end
module _ (m : Masks) (s : List ℕ) (k : ℕ) (r : Refusal) (u : Bytes s) (e : k % 12 ≡ 0) (q : r ≡ words_at m s k) where
  abbrev f : ℕ → Refusal
  f = periodic_at m s

  abbrev n : ℕ
  n = length s

  here : r ≡ first_of f k 12
  here = q ∙ words_first m s u k e

  step : k + 12 ≤ n → rest f n k ≡ r or_else rest f n (k + 12)
  step h =
      let t : n - k ≡ 12 + (n - (k + 12)) = omega arith in
      ap (first_of f k) t ∙ first_split f k 12 (n - (k + 12)) ∙ ap (λ (x : Refusal). x or_else rest f n (k + 12)) (sym here)

  pub twelve_stop : first_of f 0 n ≡ rest f n k → k + 12 ≤ n → (r.number ≡ 0 → ⊥) → r ≡ first_of f 0 n
  twelve_stop i h z = sym (i ∙ step h ∙ or_else_fault r (rest f n (k + 12)) z)

  pub twelve_go : first_of f 0 n ≡ rest f n k → k + 12 ≤ n → r.number ≡ 0 → first_of f 0 n ≡ rest f n (k + 12)
  twelve_go i h z = i ∙ step h ∙ or_else_none r (rest f n (k + 12)) z

  pub twelve_end : first_of f 0 n ≡ rest f n k → k ≤ n → n < k + 12 → r ≡ first_of f 0 n
  twelve_end i h l =
      let t : 12 ≡ (n - k) + (12 - (n - k)) = omega arith in
      here ∙ ap (first_of f k) t ∙ first_split f k (n - k) (12 - (n - k))
      ∙ ap (λ (x : Refusal). rest f n k or_else x) (behind_none m s (k + (n - k)) (12 - (n - k)) (omega arith))
      ∙ or_else_accept (rest f n k) (first_plain f (periodic_plain m s) k (n - k))
      ∙ sym i

-- ---- the end of a body, where there is less

field_behind : (w : ℕ) (s : List ℕ) (at : ℕ) → length s ≤ at → field w s at ≡ 0
unfolding field
field_behind zero s at h = refl
field_behind (suc w) s at h =
    let e : get_or s (at + w) 0 ≡ 0 = get_or-eq_default s 0 (omega arith) in
    omega (arith, field_behind w s at h, e)

module _ (m : Masks) (s : List ℕ) (k : ℕ) where
  pub words_one : (w : ℕ) (r : Refusal) → w ≡ field 4 s k → r ≡ reserved_rule w m.0 → length s ≤ k + 4 → r ≡ words_at m s k
  unfolding words_at words_rule
  words_one w r e q h =
      let b : reserved_rule (field 4 s (k + 4)) m.1 ≡ accept = zero_within _ _ (field_behind 4 s (k + 4) h) in
      let c : reserved_rule (field 4 s (k + 8)) m.2 ≡ accept = zero_within _ _ (field_behind 4 s (k + 8) (omega arith)) in
      q ∙ ap (λ (x : ℕ). reserved_rule x m.0) e
      ∙ rw (b, c) (sym (ap (λ (x : Refusal). reserved_rule (field 4 s k) m.0 or_else x) (or_else_none accept accept refl) ∙ or_else_accept _ (reserved_plain (field 4 s k) m.0)))

  pub words_none : length s ≤ k → accept ≡ words_at m s k
  words_none h = words_one (field 4 s k) accept refl (sym (zero_within _ _ (field_behind 4 s k h))) (omega arith)
