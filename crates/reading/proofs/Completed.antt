-- The reading of a response that has to be complete: refused, cut, or read; and what it says that it is not refused. Assumes nothing.
use borrow.Author.Tests.{eq-eqb, ne_eqb, eqb-true, not-false}
use mathlib.Core.Path.{◌≡◌, refl, sym, ap, ◌∙◌}
use mathlib.Core.Bool.{Bool, true, false, not}
use mathlib.Core.List.{List}
use Prim.Native.Nat.{ℕ, zero, suc, ◌+◌}
use native.Mathlib.Omega.{arith}
use lib.Dec.{eqb}
use lib.ListN.{length}
use Rattle.fields.specs.Field.{field}
use Rattle.refusal.specs.declared.Refusal.{Refusal}
use Rattle.refusal.specs.First.{refuse, accept, ◌if◌else◌}
use Rattle.refusal.proofs.First.{known, if_true, if_false, if_plain, if_zero, or_else_none, or_else_fault, or_else_plain, or_else_zero, unless_none, unless_fault}
use Rattle.text.specs.declared.Reading.{Reading}
use Rattle.text.specs.Reading.{stated_length, stated_end, header_rule, walk, walked, read_fault, nothing_read, taken, reading}
use Rattle.text.proofs.Walk.{read_fault_plain}
use Rattle.text.proofs.Received.{reading_fault, reading_none, reading_cases}
use Rattle.reading.specs.declared.Scanned.{Scanned}
use Rattle.reading.specs.inner.Tally.{refusal}
use Rattle.reading.specs.Places.{descs}
use Rattle.reading.specs.inner.Between.{from}
use Rattle.reading.specs.Completed.{complete_fault, completed}
use Rattle.reading.proofs.Places.{wholes_from}

number_is : {r a : Refusal} → r ≡ a → r.number ≡ a.number
number_is e = ap (λ (x : Refusal). x.number) e

-- no refusal: it was read, and it is all there
pub record Complete (s : List ℕ) : Type 0 where
  pub read : (read_fault 65534 0 0 s).number ≡ 0
  pub ends : length s ≡ stated_end s

module _ (s : List ℕ) where
  pub complete_zero : (complete_fault s).number ≡ 0 → Complete s
  unfolding complete_fault
  complete_zero e =
      let a = or_else_zero _ _ e in
      record { read = a.0; ends = eqb-true _ _ (not-false _ (if_zero _ _ _ a.1).0) }

  pub complete_accept : Complete s → complete_fault s ≡ accept
  unfolding complete_fault
  complete_accept c = or_else_none _ _ c.read ∙ rw (eq-eqb _ _ c.ends) (if_false _ _)

  -- its descriptors are those from byte 8 on
  pub descs_from : (complete_fault s).number ≡ 0 → descs s ≡ from s 8
  descs_from e = let c = complete_zero e in wholes_from s c.read c.ends

  pub reading_refusal : (reading 65534 0 0 s).refusal ≡ read_fault 65534 0 0 s
  unfolding nothing_read taken
  reading_refusal = reading_cases 65534 0 0 s (λ r ds. r.refusal ≡ read_fault 65534 0 0 s) (λ k. refl) (λ k. sym (known _ (read_fault_plain 65534 0 0 s) k))

  complete_refusal : (completed s).refusal ≡ complete_fault s
  unfolding completed nothing_read
  complete_refusal = go (complete_fault s).number refl
    where
      go : (n : ℕ) → (complete_fault s).number ≡ n → (completed s).refusal ≡ complete_fault s
      go zero e =
          ap (λ (r : Reading). r.refusal) (unless_none (complete_fault s) nothing_read (reading 65534 0 0 s) e)
          ∙ reading_refusal ∙ known _ (read_fault_plain 65534 0 0 s) (complete_zero e).read ∙ sym (complete_accept (complete_zero e))
      go (suc n) e = ap (λ (r : Reading). r.refusal) (unless_fault (complete_fault s) nothing_read (reading 65534 0 0 s) (λ z. omega arith))

  -- by such a reading r: its refusal, and what it is where it has none
  module _ (r : Reading) (e : r ≡ completed s) where
    pub complete_fault_here : r.refusal ≡ complete_fault s
    complete_fault_here = ap (λ (y : Reading). y.refusal) e ∙ complete_refusal

    pub complete_none : r.refusal.number ≡ 0 → (complete_fault s).number ≡ 0
    complete_none k = sym (number_is complete_fault_here) ∙ k

    pub complete_read : (complete_fault s).number ≡ 0 → r ≡ reading 65534 0 0 s
    unfolding completed
    complete_read k = e ∙ unless_none (complete_fault s) nothing_read (reading 65534 0 0 s) k

  -- with the reading r at hand: refused, cut, complete
  module _ (r : Reading) (e : r ≡ reading 65534 0 0 s) where
    refusal_is : r.refusal ≡ read_fault 65534 0 0 s
    refusal_is = ap (λ (y : Reading). y.refusal) e ∙ reading_refusal

    pub complete_refused : (r.refusal.number ≡ 0 → ⊥) → r ≡ completed s
    unfolding completed complete_fault
    complete_refused k =
        let f : (read_fault 65534 0 0 s).number ≡ 0 → ⊥ = λ z. k (number_is refusal_is ∙ z) in
        let g : complete_fault s ≡ read_fault 65534 0 0 s = or_else_fault _ _ f in
        e ∙ reading_fault 65534 0 0 s f ∙ ap nothing_read (sym g)
        ∙ sym (unless_fault (complete_fault s) nothing_read (reading 65534 0 0 s) (λ z. f (sym (number_is g) ∙ z)))

    module _ (k : r.refusal.number ≡ 0) where
      fine : (read_fault 65534 0 0 s).number ≡ 0
      fine = sym (number_is refusal_is) ∙ k

      whole_is : r.complete ≡ eqb (length s) (stated_end s)
      unfolding taken
      whole_is = ap (λ (y : Reading). y.complete) (e ∙ reading_none 65534 0 0 s fine)

      fault_is : complete_fault s ≡ (refuse 29 if not r.complete else accept)
      unfolding complete_fault
      fault_is = or_else_none _ _ fine ∙ ap (λ (b : Bool). refuse 29 if not b else accept) (sym whole_is)

      pub complete_cut : (c : Scanned) → not r.complete ≡ true → c ≡ refusal (refuse 29) → c.reading ≡ completed s
      unfolding completed refusal
      complete_cut c h q =
          let g : complete_fault s ≡ refuse 29 = fault_is ∙ rw h (if_true _ _) in
          ap (λ (x : Scanned). x.reading) q ∙ ap nothing_read (sym g)
          ∙ sym (unless_fault (complete_fault s) nothing_read (reading 65534 0 0 s) (λ z. omega (arith, number_is g, z)))

      pub complete_whole : not r.complete ≡ false → r ≡ completed s
      unfolding completed
      complete_whole h =
          let g : complete_fault s ≡ accept = fault_is ∙ rw h (if_false _ _) in
          e ∙ sym (unless_none (complete_fault s) nothing_read (reading 65534 0 0 s) (number_is g))

-- ---- by its number alone

module _ (s : List ℕ) where
  -- it has no place
  pub complete_numbered : (n : ℕ) → n ≡ (complete_fault s).number → refuse n ≡ complete_fault s
  unfolding complete_fault
  complete_numbered n e = sym (known (complete_fault s) (or_else_plain _ _ (read_fault_plain 65534 0 0 s) (if_plain _ _ _ refl)) (sym e))

  pub number_zero : (n : ℕ) → n ≡ (complete_fault s).number → n ≡ 0 → (complete_fault s).number ≡ 0
  number_zero n e z = sym e ∙ z

  -- with the header's refusal and the walk's number at hand
  module _ (stated : ℕ) (r : Refusal) (t : stated ≡ field 4 s 0) (q : r ≡ header_rule 65534 0 (length s) stated) where
    header_is : r ≡ header_rule 65534 0 (length s) (stated_length s)
    unfolding stated_length
    header_is = rw (← t) q

    pub number_header : (r.number ≡ 0 → ⊥) → r.number ≡ (complete_fault s).number
    unfolding complete_fault read_fault
    number_header k =
        let e : read_fault 65534 0 0 s ≡ r = or_else_fault _ _ (rw (← header_is) k) ∙ sym header_is in
        number_is (sym (or_else_fault (read_fault 65534 0 0 s) _ (rw e k) ∙ e))

    module _ (k : r.number ≡ 0) (n : ℕ) (v : n ≡ (walk (length s) 0 0 (stated + 4) s 0 8).fault.number) where
      walk_is : (read_fault 65534 0 0 s).number ≡ n
      unfolding read_fault stated_length walked
      walk_is = number_is (or_else_none _ _ (rw (← header_is) k)) ∙ sym (rw (← t) v)

      pub number_walk : (n ≡ 0 → ⊥) → n ≡ (complete_fault s).number
      unfolding complete_fault
      number_walk z = sym (number_is (or_else_fault (read_fault 65534 0 0 s) _ (λ y. z (sym walk_is ∙ y))) ∙ walk_is)

      module _ (z : n ≡ 0) where
        cut_is : complete_fault s ≡ (refuse 29 if not (eqb (length s) (stated + 4)) else accept)
        unfolding complete_fault stated_length
        cut_is = or_else_none _ _ (walk_is ∙ z) ∙ rw t refl

        pub number_cut : (length s ≡ stated + 4 → ⊥) → 29 ≡ (complete_fault s).number
        number_cut h = let e : complete_fault s ≡ refuse 29 = cut_is ∙ rw (ne_eqb (length s) (stated + 4) h) (if_true _ _) in sym (number_is e)

        pub number_none : length s ≡ stated + 4 → 0 ≡ (complete_fault s).number
        number_none h = let e : complete_fault s ≡ accept = cut_is ∙ rw (eq-eqb (length s) (stated + 4) h) (if_false _ _) in sym (number_is e)
