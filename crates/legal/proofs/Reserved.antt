-- 36 in a body, by the length that its row says. Assumes nothing.
use borrow.Author.Tests.{lt-ltb, le-ltb}
use mathlib.Core.Path.{◌≡◌, refl, sym, ap, ◌∙◌}
use mathlib.Core.List.{List}
use Prim.Native.Nat.{ℕ, ◌+◌, ◌-◌, ◌%◌, ◌≤◌, ◌<◌}
use native.Mathlib.Nat.{mod-eq_of_lt}
use native.Mathlib.Omega.{arith}
use lib.Bits.{and_mask}
use lib.ListN.{length, take, drop, get_or, length-drop, get_or-eq_default}
use lib.Seq.{get_or-drop, take_all}
use Rattle.base.specs.Lists.{Bytes}
use Rattle.fields.specs.Field.{field, spell}
use Rattle.refusal.specs.declared.Refusal.{Refusal}
use Rattle.refusal.specs.First.{accept, ◌or_else◌, first_of}
use Rattle.refusal.proofs.First.{or_else_none, or_else_fault, or_else_accept, call_none, call_fault, first_accept}
use Rattle.legal.specs.declared.Row.{Row}
use Rattle.legal.specs.declared.Length.{Length}
use Rattle.legal.specs.declared.Length.TheVariants.{Any, Exactly, Counted}
use Rattle.legal.specs.inner.Periodic.{periodic_at, pad_at, counted_fault}
use Rattle.legal.specs.Bodies.{mask_at, reserved_rule, reserved_at}
use Rattle.legal.proofs.Words.{within, zero_within, reserved_plain, first_same, first_split, first_plain, word_first, mask_a}

-- ---- the twelve bytes over and over

module _ (row : Row) (body : List ℕ) (r : Refusal) (q : r ≡ first_of (periodic_at row.2 body) 0 (length body)) where
  pub periodic_any : row.1 ≡ Any → r ≡ first_of (reserved_at row body) 0 (length body)
  unfolding periodic_at reserved_at mask_at
  periodic_any e = q ∙ sym (λ i. first_of (λ k. reserved_rule (get_or body k 0) (mask_at (e i) row.2 (get_or body 3 0) k)) 0 (length body))

  pub periodic_exactly : (l : ℕ) → row.1 ≡ Exactly l → r ≡ first_of (reserved_at row body) 0 (length body)
  unfolding periodic_at reserved_at mask_at
  periodic_exactly l e = q ∙ sym (λ i. first_of (λ k. reserved_rule (get_or body k 0) (mask_at (e i) row.2 (get_or body 3 0) k)) 0 (length body))

-- ---- the first four bytes, which every row has a word for

module _ (row : Row) (body : List ℕ) where
  abbrev f : ℕ → Refusal
  f = reserved_at row body

  behind_at : (k : ℕ) → length body ≤ k → f k ≡ accept
  unfolding reserved_at
  behind_at k h = zero_within _ _ (get_or-eq_default body 0 h)

  plain_at : (k : ℕ) → (f k).place ≡ 0
  unfolding reserved_at
  plain_at k = reserved_plain _ _

  front_at : (k : ℕ) → k < 4 → f k ≡ reserved_rule (get_or body k 0) (get_or (spell 4 row.2.0) k 0)
  unfolding reserved_at mask_at
  front_at k h = go row.1 refl
    where
      small : k % 12 ≡ k
      small = mod-eq_of_lt (omega arith)

      go : (l : Length) → row.1 ≡ l → f k ≡ reserved_rule (get_or body k 0) (get_or (spell 4 row.2.0) k 0)
      go Any e = rw (e, mask_at, small) (ap (reserved_rule (get_or body k 0)) (mask_a row.2 k h))
      go (Exactly n) e = rw (e, mask_at, small) (ap (reserved_rule (get_or body k 0)) (mask_a row.2 k h))
      go Counted e = rw (e, lt-ltb k 4 h, mask_at) (ap (reserved_rule (get_or body k 0)) (mask_a row.2 k h))

  -- the search up to a place behind the body finds what that up to its end does
  longer : (k : ℕ) → length body ≤ k → first_of f 0 k ≡ first_of f 0 (length body)
  longer k h =
      let t : k ≡ length body + (k - length body) = omega arith in
      ap (first_of f 0) t ∙ first_split f 0 (length body) (k - length body)
      ∙ ap (λ (x : Refusal). first_of f 0 (length body) or_else x)
      (first_accept f (0 + length body) (k - length body) (λ j l i. ap (λ (x : Refusal). x.number) (behind_at j (omega arith))))
      ∙ or_else_accept _ (first_plain f plain_at 0 (length body))

  module _ (u : Bytes body) where
    front_first : reserved_rule (field 4 body 0) row.2.0 ≡ first_of f 0 4
    front_first =
        word_first body u 0 4 row.2.0
        ∙ first_same (λ k. reserved_rule (get_or body (0 + k) 0) (get_or (spell 4 row.2.0) k 0)) f 0 0 4
        (λ j l.
        let z : 0 + j ≡ j = omega arith in
        rw (z, z) (sym (front_at j l)))

    -- where there are no more, that word is all
    pub word_only : (w : ℕ) (r : Refusal) → w ≡ field 4 body 0 → r ≡ reserved_rule w row.2.0 → length body ≤ 4 → r ≡ first_of f 0 (length body)
    word_only w r e q h = q ∙ ap (λ (x : ℕ). reserved_rule x row.2.0) e ∙ front_first ∙ longer 4 h

-- ---- the bytes that byte 7 counts

module _ (row : Row) (body : List ℕ) (u : Bytes body) (e : row.1 ≡ Counted) where
  abbrev n : ℕ
  n = get_or body 3 0

  -- what is asked of each byte behind the first four: among those that are counted, and in the pad
  counted_at : (k : ℕ) → 4 ≤ k → k < 4 + n → f row body k ≡ accept
  unfolding reserved_at mask_at
  counted_at k h l =
      rw (e, le-ltb k 4 h, lt-ltb k (4 + n) l, mask_at) (within (get_or body k 0) 255 (and_mask (get_or body k 0) 8 ∙ mod-eq_of_lt (u k)))

  pad_at_here : (k : ℕ) → 4 + n ≤ k → f row body k ≡ reserved_rule (get_or body k 0) 0
  unfolding reserved_at mask_at
  pad_at_here k l = rw (e, le-ltb k 4 (omega arith), le-ltb k (4 + n) l, mask_at)

  -- the pad as a part of the body
  abbrev pad : List ℕ
  pad = take (length body) (drop (4 + n) body)

  pad_drop : pad ≡ drop (4 + n) body
  pad_drop = take_all (length body) (drop (4 + n) body) (omega (arith, length-drop (4 + n) body))

  pad_first : first_of (pad_at pad) 0 (length pad) ≡ first_of (f row body) (4 + n) (length body - (4 + n))
  unfolding pad_at
  pad_first =
      rw pad_drop
      (ap (first_of (pad_at (drop (4 + n) body)) 0) (length-drop (4 + n) body)
      ∙ first_same (pad_at (drop (4 + n) body)) (f row body) 0 (4 + n) (length body - (4 + n))
      (λ j l.
      let z : 4 + n + (0 + j) ≡ 4 + n + j = omega arith in
      ap (λ (b : ℕ). reserved_rule b 0) (get_or-drop (4 + n) body (0 + j) 0 ∙ ap (λ (i : ℕ). get_or body i 0) z) ∙ sym (pad_at_here (4 + n + j) (omega arith))))

  pub counted_first : (r : Refusal) → r ≡ counted_fault row.2.0 body → r ≡ first_of (f row body) 0 (length body)
  unfolding counted_fault
  counted_first r q =
      let c : first_of (f row body) 4 n ≡ accept = first_accept (f row body) 4 n (λ j l i. ap (λ (x : Refusal). x.number) (counted_at j l i)) in
      let d : length body - (4 + n) + (4 + n) ≡ 4 + (n + (length body - (4 + n))) = omega arith in
      q ∙ rw (front_first row body u, pad_first)
      (ap (λ (x : Refusal). first_of (f row body) 0 4 or_else x)
      (sym (first_split (f row body) 4 n (length body - (4 + n)) ∙ rw c (or_else_none accept _ refl)))
      ∙ sym (first_split (f row body) 0 4 (n + (length body - (4 + n)))))
      ∙ longer row body (4 + (n + (length body - (4 + n)))) (omega arith)

-- ---- the walks, at what calls gave

pub pad_is : (pad : List ℕ) (k : ℕ) (r : Refusal) → r ≡ reserved_rule (get_or pad k 0) 0 → r ≡ pad_at pad k
unfolding pad_at
pad_is pad k r q = q

module _ (mask : ℕ) (body : List ℕ) (w : ℕ) (r : Refusal) (e : w ≡ field 4 body 0) (q : r ≡ reserved_rule w mask) where
  front : r ≡ reserved_rule (field 4 body 0) mask
  front = rw (← e) q

  pub counted_front : (r.number ≡ 0 → ⊥) → r ≡ counted_fault mask body
  unfolding counted_fault
  counted_front h = front ∙ sym (or_else_fault _ _ (call_fault _ _ front h))

  pub counted_pad : (n : ℕ) (part : List ℕ) (x : Refusal) → r.number ≡ 0 → n ≡ get_or body 3 0 → part ≡ take (length body) (drop (4 + n) body)
      → x ≡ first_of (pad_at part) 0 (length part) → x ≡ counted_fault mask body
  unfolding counted_fault
  counted_pad n part x z m p y = y ∙ rw (p, m) (sym (or_else_none _ _ (call_none _ _ front z)))
