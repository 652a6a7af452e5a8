-- What the steps of the mender give, case by case. Assumes nothing.
use borrow.Author.Tests.{le-leb, lt-leb, eq-eqb, ne_eqb, not-true, not-false}
use mathlib.Core.Path.{◌≡◌, refl, sym, ap, ◌∙◌}
use mathlib.Core.Bool.{Bool, true, false, not, ◌&&◌, ◌||◌}
use mathlib.Core.List.{List}
use Prim.Native.Nat.{ℕ, ◌+◌, ◌*◌, ◌/◌, ◌%◌, ◌≤◌, ◌<◌}
use native.Mathlib.Omega.{arith}
use lib.Dec.{leb, eqb}
use lib.ListN.{length, get_or}
use mathlib.Core.Bool.{and-false}
use lib.Bits.{bit_and}
use Rattle.fields.specs.Field.{field}
use Rattle.refusal.specs.declared.Refusal.{Refusal}
use Rattle.refusal.specs.First.{first_of}
use Rattle.text.specs.Flags.{version, persistent, current}
use Rattle.legal.specs.declared.Row.{Row}
use Rattle.legal.specs.Bodies.{wrong_length, mask_at, reserved_at, cue_rule}
use Rattle.mend.specs.declared.Plan.{Plan}
use Rattle.mend.specs.Mended.{without_persistent, forbidden, persistent_mended, unless0}
use Rattle.mend.specs.inner.Plan.{off_in, planned, dirty}
use Rattle.mend.specs.Changes.{change_at}
use Rattle.mend.proofs.Changes.{change_none, change_some}
use Rattle.mend.proofs.Bits.{and_no, and_yes}

and_true_r : (b : Bool) → (b && true) ≡ b
and_true_r true = refl
and_true_r false = refl

-- ---- a change or none

module _ (a b : ℕ) where
  pub differs_none : a ≡ b → (0 ≡ length (change_at 0 a b)) × (0 ≤ 1)
  differs_none e = (sym (ap length (change_none 0 a b e)), omega arith)

  pub differs_some : (a ≡ b → ⊥) → (1 ≡ length (change_at 0 a b)) × (1 ≤ 1)
  differs_some h = (sym (ap length (change_some 0 a b h)), omega arith)

-- ---- a byte

module _ (p : Plan) (k b : ℕ) (t : Bool) (e : t ≡ (p.off && leb 1 k && leb k 3)) where
  pub planned_cleared : t ≡ true → 0 ≡ planned p k b
  unfolding planned
  planned_cleared h = sym (ap (λ (x : Bool). unless0 x (bit_and b (mask_at p.row.1 p.row.2 p.n k))) (sym e ∙ h))

  pub planned_masked : t ≡ false → (m : ℕ) → m ≡ mask_at p.row.1 p.row.2 p.n k → bit_and b m ≡ planned p k b
  unfolding planned
  planned_masked h m q = ap (bit_and b) q ∙ sym (ap (λ (x : Bool). unless0 x (bit_and b (mask_at p.row.1 p.row.2 p.n k))) (sym e ∙ h))

module _ (f : ℕ) (body : List ℕ) where
  pub off_other : (f ≡ 0x002E → ⊥) → false ≡ off_in f body
  off_other h = sym (and_no _ _ (ne_eqb f 0x002E h))

  pub off_bit : (b : ℕ) → f ≡ 0x002E → b ≡ get_or body 0 0 → eqb (b / 32 % 2) 0 ≡ off_in f body
  off_bit b h e = rw e (sym (and_yes _ _ (eq-eqb f 0x002E h)))

-- ---- the flags

module _ (barred : Bool) (f : ℕ) (p : Bool) where
  pub forbidden_unset : p ≡ eqb (persistent f) 1 → not p ≡ true → false ≡ forbidden barred f
  forbidden_unset e h =
      let q : eqb (persistent f) 1 ≡ false = sym e ∙ not-true p h in
      sym (rw q (and-false barred))

  module _ (c : Bool) (e : p ≡ eqb (persistent f) 1) (h : not p ≡ false) (d : c ≡ eqb (current f) 1) where
    set : eqb (persistent f) 1 ≡ true
    set = sym e ∙ not-false p h

    pub forbidden_alone : not c ≡ true → true ≡ forbidden barred f
    forbidden_alone k = sym (rw (set, sym d ∙ not-true c k))

    pub forbidden_both : not c ≡ false → barred ≡ forbidden barred f
    forbidden_both k = sym (rw (set, sym d ∙ not-false c k) (and_true_r barred))

module _ (barred : Bool) (f : ℕ) (t : Bool) (e : t ≡ forbidden barred f) where
  pub persistent_cleared : t ≡ true → f / 4 * 4 + f % 2 ≡ persistent_mended barred f
  persistent_cleared h = ap (λ (x : Bool). without_persistent x f) (sym (sym e ∙ h))

  pub persistent_kept : t ≡ false → f ≡ persistent_mended barred f
  persistent_kept h = ap (λ (x : Bool). without_persistent x f) (sym (sym e ∙ h))

-- ---- the three bytes of a cue sheet length

module _ (off : Bool) (k : ℕ) where
  pub cleared_unset : not off ≡ true → false ≡ (off && leb 1 k && leb k 3)
  cleared_unset h = sym (rw (not-true off h))

  pub cleared_first : k < 1 → false ≡ (off && leb 1 k && leb k 3)
  cleared_first h = sym (rw (lt-leb 1 k h) (and_no (off && false) (leb k 3) (and-false off)))

  pub cleared_there : not off ≡ false → 1 ≤ k → leb k 3 ≡ (off && leb 1 k && leb k 3)
  cleared_there h l = sym (rw (not-false off h, le-leb 1 k l))

-- ---- whether there is something to mend

module _ (row : Row) (f flags : ℕ) (body : List ℕ) where
  pub dirty_other : row.0.0 ≡ 0xFFFF → false ≡ dirty row f flags body
  unfolding dirty
  dirty_other e = sym (rw (eq-eqb row.0.0 0xFFFF e))

  module _ (o : row.0.0 ≡ 0xFFFF → ⊥) (v : ℕ) (q : v ≡ version flags) where
    pub dirty_newer : (v ≡ 0 → ⊥) → false ≡ dirty row f flags body
    unfolding dirty
    dirty_newer h = sym (rw (ne_eqb (version flags) 0 (λ z. h (q ∙ z)), ne_eqb row.0.0 0xFFFF o))

    module _ (z : v ≡ 0) (n : ℕ) (m : n ≡ get_or body 3 0) (t : Bool) (w : t ≡ wrong_length row.1 flags n (length body)) where
      plain : eqb (version flags) 0 ≡ true
      plain = eq-eqb (version flags) 0 (sym q ∙ z)

      wrong_is : wrong_length row.1 flags (get_or body 3 0) (length body) ≡ t
      wrong_is = sym (w ∙ ap (λ (x : ℕ). wrong_length row.1 flags x (length body)) m)

      pub dirty_length : t ≡ true → false ≡ dirty row f flags body
      unfolding dirty
      dirty_length h = sym (rw (plain, ne_eqb row.0.0 0xFFFF o, wrong_is ∙ h))

      module _ (h : t ≡ false) (r : Refusal) (u : r ≡ first_of (reserved_at row body) 0 (length body)) where
        front : dirty row f flags body ≡ (not (eqb r.number 0) || not (eqb (cue_rule f (get_or body 0 0) (field 3 body 1)).number 0))
        unfolding dirty
        front = rw (plain, ne_eqb row.0.0 0xFFFF o, wrong_is ∙ h, u)

        pub dirty_reserved : (r.number ≡ 0 → ⊥) → true ≡ dirty row f flags body
        dirty_reserved k = sym (front ∙ rw (ne_eqb r.number 0 k))

        pub dirty_cue : r.number ≡ 0 → (x : Refusal) → x ≡ cue_rule f (get_or body 0 0) (field 3 body 1) → not (eqb x.number 0) ≡ dirty row f flags body
        dirty_cue k x y = sym (front ∙ rw (eq-eqb r.number 0 k, ← y))
