-- A descriptor that was mended. Assumes nothing.
use borrow.Author.Tests.{eqb-true, ne_eqb}
use mathlib.Core.Path.{◌≡◌, refl, sym, ap, subst, ◌∙◌}
use mathlib.Core.Bool.{Bool, true, false, not, ◌&&◌, true≢false, and-false}
use mathlib.Core.Logic.{⊎_elim}
use Rattle.base.proofs.Compare.{le_or_lt}
use mathlib.Core.List.{List, [], ◌∷◌}
use Prim.Native.Nat.{ℕ, zero, suc, ◌/◌, ◌%◌, ◌≤◌, ◌<◌}
use native.Mathlib.Nat.{zero-add, mod-eq_of_lt}
use native.Mathlib.Omega.{arith}
use lib.Bits.{bit_and, and_mask, and_le_l, and_zero_l}
use lib.Dec.{leb, eqb}
use lib.ListN.{length, get_or, get_or-eq_default}
use Rattle.base.specs.Lists.{each, All, Bytes}
use Rattle.base.specs.Pick.{pick}
use Rattle.base.proofs.Pick.{pick_here, pick_past}
use Rattle.base.proofs.Lists.{length_each, get_d_each, each_same}
use Rattle.fields.specs.Field.{spell}
use Rattle.text.specs.Flags.{version, newer}
use Rattle.legal.specs.declared.Length.{Length}
use Rattle.legal.specs.declared.Length.TheVariants.{Any, Exactly, Counted}
use Rattle.legal.specs.declared.Masks.{Masks}
use Rattle.legal.specs.declared.Row.{Row}
use Rattle.legal.specs.Legal.{legal, other, row_of, mask_bytes}
use Rattle.legal.specs.Bodies.{byte_of, is_too_short, is_too_long, wrong_length, mask_at}
use Rattle.mend.specs.Mended.{uncued, unless0, mended_byte}
use Rattle.base.proofs.Bits.{and_again}
use Rattle.mend.proofs.Bits.{and_no, sao_kept}

-- ---- what holds of every row, by one computed test

-- what is counted is counted by a byte that any bits may be 1 in, and is not 002Eh
abbrev counted_well : Length → Masks → ℕ → Bool
counted_well Any m f = true
counted_well (Exactly k) m f = true
counted_well Counted m f = eqb (get_or (mask_bytes m) 3 0) 255 && not (eqb f 0x002E)

-- the row of a low feature bars nothing
abbrev well : Row → Bool
well r = counted_well r.1 r.2 r.0.0 && not (leb r.0.0 0x0003 && r.3)

module _ (P : Row → Type 0) (f : ℕ) (none : P other) where
  abbrev is : Row → Bool
  is r = eqb r.0.0 f

  abbrev same : Row → Row
  same r = r

  -- what holds of the row for other features, and of each row at its own feature, holds of the row of f
  found_row : (rs : List Row) → All (λ (r : Row). r.0.0 ≡ f → P r) rs → P (pick is same other rs)
  unfolding pick
  found_row [] a = none
  found_row (r ∷ rs) a = go (is r) refl (found_row rs a.1)
    where
      go : (t : Bool) → is r ≡ t → P (pick is same other rs) → P (pick is same other (r ∷ rs))
      go true e more = rw (pick_here is same other r rs e) (a.0 (eqb-true _ _ e))
      go false e more = rw (pick_past is same other r rs e) more

  pub row_cases : All (λ (r : Row). r.0.0 ≡ f → P r) legal → P (row_of f)
  unfolding row_of
  row_cases a = found_row legal a

-- the row of a low feature bars nothing
pub low_free : (f : ℕ) → f ≤ 0x0003 → (row_of f).3 ≡ false
unfolding row_of legal pick
low_free zero l = refl
low_free (suc zero) l = refl
low_free (suc (suc zero)) l = refl
low_free (suc (suc (suc zero))) l = refl
low_free (suc (suc (suc (suc f)))) l = absurd (omega arith)

-- only 0021h is counted
abbrev is_counted : Length → Bool
is_counted Any = false
is_counted (Exactly k) = false
is_counted Counted = true

not_counted : {A : Type 0} (l : Length) → is_counted l ≡ false → l ≡ Counted → A
not_counted l e c = absurd (true≢false (sym (ap is_counted c) ∙ e))

counted_is : (f : ℕ) → (row_of f).1 ≡ Counted → f ≡ 0x0021
unfolding legal other
counted_is f =
    row_cases (λ r. r.1 ≡ Counted → f ≡ 0x0021) f (not_counted other.1 refl) (
      λ e. not_counted _ refl,
      (
        λ e. not_counted _ refl,
        (
          λ e. not_counted _ refl,
          (
            λ e. not_counted _ refl,
            (
              λ e. not_counted _ refl,
              (
                λ e. not_counted _ refl,
                (λ e c. sym e, (λ e. not_counted _ refl, (λ e. not_counted _ refl, (λ e. not_counted _ refl, (λ e. not_counted _ refl, tt))))),
              ),
            ),
          ),
        ),
      ),
    )

-- ---- what does not depend on byte 7 unless it counts

mask_free : (l : Length) (masks : Masks) (n m k : ℕ) → (l ≡ Counted → n ≡ m) → mask_at l masks n k ≡ mask_at l masks m k
unfolding mask_at
mask_free Any masks n m k h = refl
mask_free (Exactly j) masks n m k h = refl
mask_free Counted masks n m k h = ap (λ (x : ℕ). mask_at Counted masks x k) (h refl)

pub length_free : (l : Length) (f g n m len : ℕ) → newer f ≡ newer g → (l ≡ Counted → n ≡ m) → wrong_length l f n len ≡ wrong_length l g m len
unfolding wrong_length is_too_short is_too_long
length_free Any f g n m len v h = rw v
length_free (Exactly j) f g n m len v h = rw v
length_free Counted f g n m len v h = rw (v, h refl)

pub version_newer : (f g : ℕ) → version f ≡ version g → newer f ≡ newer g
version_newer f g e = ap (λ (v : ℕ). not (eqb v 0)) e

-- ---- two bytes and their masks

counted_all : (n : ℕ) → mask_at (row_of 0x0021).1 (row_of 0x0021).2 n 3 ≡ 255
unfolding mask_at row_of legal pick mask_bytes spell
counted_all n = refl

sao_mask : (n : ℕ) → mask_at (row_of 0x002E).1 (row_of 0x002E).2 n 0 ≡ 63
unfolding mask_at row_of legal pick mask_bytes spell
sao_mask n = refl

-- ---- a body

module _ (f : ℕ) (body : List ℕ) where
  abbrev row : Row
  row = row_of f

  -- all of it mended
  abbrev pub fixed : List ℕ
  fixed = each (mended_byte row f body) 0 (length body)

  pub length_fixed : length fixed ≡ length body
  length_fixed = length_each (mended_byte row f body) 0 (length body)

  pub fixed_at : (k : ℕ) → k < length body → get_or fixed k 0 ≡ mended_byte row f body k
  fixed_at k l = get_d_each (mended_byte row f body) 0 0 (length body) k l ∙ ap (mended_byte row f body) (zero-add k)

  fixed_behind : (k : ℕ) → length body ≤ k → get_or fixed k 0 ≡ get_or body k 0
  fixed_behind k l = get_or-eq_default fixed 0 (omega (arith, length_fixed)) ∙ sym (get_or-eq_default body 0 l)

  abbrev mask : ℕ → ℕ
  mask k = mask_at row.1 row.2 (byte_of body 7) k

  -- where the cue sheet length is cleared, and where not
  pub byte_cleared : (k : ℕ) → uncued f body k ≡ true → mended_byte row f body k ≡ 0
  unfolding mended_byte
  byte_cleared k e = ap (λ (t : Bool). unless0 t (bit_and (get_or body k 0) (mask k))) e

  pub byte_masked : (k : ℕ) → uncued f body k ≡ false → mended_byte row f body k ≡ bit_and (get_or body k 0) (mask k)
  unfolding mended_byte
  byte_masked k e = ap (λ (t : Bool). unless0 t (bit_and (get_or body k 0) (mask k))) e

  -- the first byte is never cleared, nor is any of another feature
  uncued_first : uncued f body 0 ≡ false
  unfolding uncued
  uncued_first = and_no _ (leb 0 3) (and-false (eqb f 0x002E && eqb (byte_of body 4 / 32 % 2) 0))

  pub uncued_other : (k : ℕ) → (f ≡ 0x002E → ⊥) → uncued f body k ≡ false
  unfolding uncued
  uncued_other k h = and_no _ _ (and_no _ _ (and_no _ _ (ne_eqb f 0x002E h)))

  module _ (bs : Bytes body) where
    low_byte : (k : ℕ) → get_or body k 0 < 256
    low_byte k = bs k

    -- the byte that counts stays
    pub counts_kept : row.1 ≡ Counted → byte_of fixed 7 ≡ byte_of body 7
    counts_kept c = ⊎_elim (λ (l : length body ≤ 3). fixed_behind 3 l) there (le_or_lt (length body) 3)
      where
        q : f ≡ 0x0021
        q = counted_is f c

        all : mask 3 ≡ 255
        all = subst (λ (g : ℕ). mask_at (row_of g).1 (row_of g).2 (byte_of body 7) 3 ≡ 255) (sym q) (counted_all (byte_of body 7))

        there : 3 < length body → byte_of fixed 7 ≡ byte_of body 7
        there l =
            fixed_at 3 l ∙ byte_masked 3 (uncued_other 3 (λ e. omega (arith, e, q))) ∙ ap (bit_and (get_or body 3 0)) all ∙ and_mask (get_or body 3 0) 8 ∙ mod-eq_of_lt (bs 3)

    -- and so does SAO
    pub sao_stays : f ≡ 0x002E → byte_of fixed 4 / 32 % 2 ≡ byte_of body 4 / 32 % 2
    sao_stays q = ⊎_elim (λ (l : length body ≤ 0). ap (λ (b : ℕ). b / 32 % 2) (fixed_behind 0 l)) there (le_or_lt (length body) 0)
      where
        six : mask 0 ≡ 63
        six = subst (λ (g : ℕ). mask_at (row_of g).1 (row_of g).2 (byte_of body 7) 0 ≡ 63) (sym q) (sao_mask (byte_of body 7))

        there : 0 < length body → byte_of fixed 4 / 32 % 2 ≡ byte_of body 4 / 32 % 2
        there l =
            ap (λ (b : ℕ). b / 32 % 2) (fixed_at 0 l ∙ byte_masked 0 uncued_first ∙ ap (bit_and (get_or body 0 0)) six) ∙ sao_kept (get_or body 0 0) (bs 0)

    -- so the same bytes are cleared again, and the same masks apply
    pub uncued_again : (k : ℕ) → uncued f fixed k ≡ uncued f body k
    unfolding uncued
    uncued_again k = go (eqb f 0x002E) refl
      where
        go : (t : Bool) → eqb f 0x002E ≡ t → uncued f fixed k ≡ uncued f body k
        go true e = ap (λ (b : ℕ). eqb f 0x002E && eqb b 0 && leb 1 k && leb k 3) (sao_stays (eqb-true _ _ e))
        go false e = rw (e, uncued)

    pub mask_again : (k : ℕ) → mask_at row.1 row.2 (byte_of fixed 7) k ≡ mask k
    mask_again k = mask_free row.1 row.2 (byte_of fixed 7) (byte_of body 7) k counts_kept

    -- what is mended breaks no rule of bits
    pub fixed_within : (k : ℕ) → k < length body → bit_and (get_or fixed k 0) (mask k) ≡ get_or fixed k 0
    fixed_within k l = rw (fixed_at k l) (go (uncued f body k) refl)
      where
        go : (t : Bool) → uncued f body k ≡ t → bit_and (mended_byte row f body k) (mask k) ≡ mended_byte row f body k
        go true e = rw (byte_cleared k e) (and_zero_l (mask k))
        go false e = rw (byte_masked k e) (and_again (get_or body k 0) (mask k))

    byte_again : (k : ℕ) → k < length body → mended_byte row f fixed k ≡ mended_byte row f body k
    unfolding mended_byte
    byte_again k l =
        ap (λ (t : Bool). unless0 t (bit_and (get_or fixed k 0) (mask_at row.1 row.2 (byte_of fixed 7) k))) (uncued_again k)
        ∙ ap (λ (m : ℕ). unless0 (uncued f body k) (bit_and (get_or fixed k 0) m)) (mask_again k)
        ∙ ap (unless0 (uncued f body k)) (fixed_within k l)
        ∙ go (uncued f body k) refl
      where
        go : (t : Bool) → uncued f body k ≡ t → unless0 (uncued f body k) (get_or fixed k 0) ≡ mended_byte row f body k
        go true e = ap (λ (t : Bool). unless0 t (get_or fixed k 0)) e ∙ sym (byte_cleared k e)
        go false e = ap (λ (t : Bool). unless0 t (get_or fixed k 0)) e ∙ fixed_at k l

    -- mending it again changes nothing
    pub fixed_again : each (mended_byte row f fixed) 0 (length fixed) ≡ fixed
    fixed_again =
        rw length_fixed (each_same (mended_byte row f fixed) (mended_byte row f body) 0 (length body) (λ j h l. byte_again j (omega arith)))

    -- it is made of bytes
    pub fixed_bytes : Bytes fixed
    fixed_bytes k = ⊎_elim (λ (l : length body ≤ k). rw (fixed_behind k l) (bs k)) there (le_or_lt (length body) k)
      where
        below : (t : Bool) → uncued f body k ≡ t → mended_byte row f body k < 256
        below true e = rw (byte_cleared k e) (omega arith)
        below false e = rw (byte_masked k e) (omega (arith, and_le_l (get_or body k 0) (mask k), bs k))

        there : k < length body → get_or fixed k 0 < 256
        there l = rw (fixed_at k l) (below (uncued f body k) refl)
