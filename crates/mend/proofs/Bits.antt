-- Flags and bytes that were mended: what holds of every byte, by one computed test. Assumes nothing.
use borrow.Author.Tests.{eqb-true, ltb-true, not-true}
use mathlib.Core.Path.{◌≡◌, refl, sym}
use mathlib.Core.Bool.{Bool, true, false, not, ◌&&◌, true≢false}
use Prim.Native.Nat.{ℕ, ◌/◌, ◌%◌, ◌<◌}
use lib.Bits.{bit_and}
use lib.Dec.{eqb, ltb}
use Rattle.base.proofs.Bits.{below, below_all}
use Rattle.text.specs.Flags.{reserved, version, persistent, current, alone}
use Rattle.base.proofs.Bools.{and_true}
use Rattle.mend.specs.Mended.{flags_mended}

-- a conjunction whose first test is known
pub and_no : (a b : Bool) → a ≡ false → (a && b) ≡ false
and_no a b h = rw h

pub and_yes : (a b : Bool) → a ≡ true → (a && b) ≡ b
and_yes a b h = rw h

-- ---- the flags

-- g are mended flags of f: a byte without reserved bits, its Version kept, with both flags where they must be, without Persistent where it may not be, and
-- mending it again changes nothing
abbrev pub are_both_in : Bool → ℕ → Bool
are_both_in true g = eqb (persistent g) 1 && eqb (current g) 1
are_both_in false g = true

abbrev good : (both barred : Bool) → ℕ → Bool
good both barred f =
    ltb (flags_mended both barred f) 256
    && eqb (reserved (flags_mended both barred f)) 0
    && eqb (version (flags_mended both barred f)) (version f)
    && not (alone (flags_mended both barred f))
    && are_both_in both (flags_mended both barred f)
    && eqb (flags_mended both barred (flags_mended both barred f)) (flags_mended both barred f)

pub record Good (both barred : Bool) (f g : ℕ) : Type 0 where
  pub low : g < 256
  pub reserved_zero : reserved g ≡ 0
  pub version_kept : version g ≡ version f
  pub not_alone : alone g ≡ false
  pub both_set : both ≡ true → (persistent g ≡ 1) × (current g ≡ 1)
  pub again : flags_mended both barred g ≡ g

-- the table bars none of those that must have both
good_test : (both barred : Bool) → (both ≡ true → barred ≡ false) → below (good both barred) 256 ≡ true
unfolding flags_mended
good_test true true h = absurd (true≢false (h refl))
good_test true false h = refl
good_test false true h = refl
good_test false false h = refl

both_of : (both : Bool) (g : ℕ) → are_both_in both g ≡ true → both ≡ true → (persistent g ≡ 1) × (current g ≡ 1)
both_of true g e h = let a = and_true _ _ e in (eqb-true _ _ a.0, eqb-true _ _ a.1)
both_of false g e h = absurd (true≢false (sym h))

pub flags_good : (both barred : Bool) (f : ℕ) → (both ≡ true → barred ≡ false) → f < 256 → Good both barred f (flags_mended both barred f)
flags_good both barred f h l =
    let t = below_all (good both barred) 256 (good_test both barred h) f l in
    let a = and_true _ _ t in
    let b = and_true _ _ a.0 in
    let c = and_true _ _ b.0 in
    let d = and_true _ _ c.0 in
    let e = and_true _ _ d.0 in
    record {
      low = ltb-true _ _ e.0;
      reserved_zero = eqb-true _ _ e.1;
      version_kept = eqb-true _ _ d.1;
      not_alone = not-true _ c.1;
      both_set = both_of both (flags_mended both barred f) b.1;
      again = eqb-true _ _ a.1;
    }

-- where 35 applies and the two flags need not be set, Persistent is 0
free_test : below (λ f. eqb (persistent (flags_mended false true f)) 0) 256 ≡ true
unfolding flags_mended
free_test = refl

pub flags_free : (f : ℕ) → f < 256 → persistent (flags_mended false true f) ≡ 0
flags_free f l = eqb-true _ _ (below_all (λ f. eqb (persistent (flags_mended false true f)) 0) 256 free_test f l)

-- the SAO bit is kept by the mask of its byte
sao_test : below (λ b. eqb (bit_and b 63 / 32 % 2) (b / 32 % 2)) 256 ≡ true
sao_test = refl

pub sao_kept : (b : ℕ) → b < 256 → bit_and b 63 / 32 % 2 ≡ b / 32 % 2
sao_kept b l = eqb-true _ _ (below_all (λ b. eqb (bit_and b 63 / 32 % 2) (b / 32 % 2)) 256 sao_test b l)
