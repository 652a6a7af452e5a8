-- What holds of big-endian fields at every width. Assumes nothing.
use mathlib.Core.Path.{◌≡◌, refl, sym, ap, ◌∙◌}
use mathlib.Core.List.{List, [], ◌∷◌, ◌++◌, append_assoc, append-nil}
use Prim.Native.Nat.{ℕ, zero, suc, ◌+◌, ◌*◌, ◌/◌, ◌%◌, ◌^◌, ◌≤◌, ◌<◌}
use native.Mathlib.Nat.{add-zero, add-suc, add_assoc, pow-suc, pow-succ', mod-one, mod-lt, mod-eq_of_lt, div-one, div-div-eq-div-mul}
use native.Mathlib.Omega.{arith}
use lib.ListN.{length, take, drop, get_or, length-drop, length-append}
use lib.Seq.{take-suc, take_all, get_or-take, get_or-drop, get_or_at, append_snoc}
use lib.Arith.{digits_lt, digits_div, digits_mod, mod-mul}
use Rattle.base.specs.Lists.{Bytes}
use Rattle.base.proofs.Lists.{bytes_one, bytes_append}
use Rattle.fields.specs.Field.{field, spell}

pub pow_pos : (w : ℕ) → 0 < 256 ^ w
pow_pos zero = omega arith
pow_pos (suc w) = rw pow-suc (omega (arith, pow_pos w))

-- ---- a field of a slice

pub field_one : (s : List ℕ) (at : ℕ) → field 1 s at ≡ get_or s at 0
unfolding field
field_one s at = rw add-zero (omega arith)

-- the last byte of a field
pub field_last : (w : ℕ) (s : List ℕ) (at : ℕ) → field (suc w) s at ≡ field w s at * 256 + get_or s (at + w) 0
unfolding field
field_last w s at = refl

-- a field in two parts: what reads a wider field from narrower ones
pub field_split : (v w : ℕ) (s : List ℕ) (at : ℕ) → field (v + w) s at ≡ field v s at * 256 ^ w + field w s (at + v)
unfolding field
field_split v zero s at = rw add-zero (omega arith)
field_split v (suc w) s at =
    let e : field (v + w) s at ≡ field v s at * 256 ^ w + field w s (at + v) = field_split v w s at in
    rw (add-suc, field, e, pow-suc, add_assoc) (omega arith)

-- a field is below the bound of its width
pub field_lt : (w : ℕ) (s : List ℕ) (at : ℕ) → Bytes s → field w s at < 256 ^ w
unfolding field
field_lt zero s at b = omega arith
field_lt (suc w) s at b = rw pow-suc (digits_lt (field_lt w s at b) (b (at + w)))

-- a field of what is left of a slice
pub field_drop : (w k : ℕ) (s : List ℕ) (at : ℕ) → field w (drop k s) at ≡ field w s (k + at)
unfolding field
field_drop zero k s at = refl
field_drop (suc w) k s at = rw (field_drop w k s at, get_or-drop, add_assoc)

-- ---- the bytes of a number

pub length_spell : (w v : ℕ) → length (spell w v) ≡ w
unfolding spell
length_spell zero v = refl
length_spell (suc w) v = simp (length-append, length_spell w (v / 256)) (omega arith)

pub bytes_spell : (w v : ℕ) → Bytes (spell w v)
unfolding spell
bytes_spell zero v i = omega arith
bytes_spell (suc w) v i = bytes_append (spell w (v / 256)) (v % 256 ∷ []) (bytes_spell w (v / 256)) (bytes_one (v % 256) (mod-lt v (omega arith))) i

-- the bytes of a number in two parts
pub spell_split : (v w x : ℕ) → spell (v + w) x ≡ spell v (x / 256 ^ w) ++ spell w x
unfolding spell
spell_split v zero x = rw (add-zero, div-one, append-nil)
spell_split v (suc w) x =
    rw (add-suc, spell, spell_split v w (x / 256), div-div-eq-div-mul, ← pow-succ', append_assoc)

-- ---- each undoes the other

-- the number that the bytes of v spell, at the front of a list
pub field_spell : (w v : ℕ) (rest : List ℕ) → field w (spell w v ++ rest) 0 ≡ v % 256 ^ w
unfolding field spell
field_spell zero v rest = sym (mod-one v)
field_spell (suc w) v rest =
    rw (append_snoc, field_spell w (v / 256) (v % 256 ∷ rest), get_or_at (spell w (v / 256)) (v % 256) rest 0 (0 + w) (omega (arith, length_spell w (v / 256))), pow-suc)
    (sym (mod-mul v (pow_pos w) (pow_pos 1)))

-- the bytes of a field are the bytes that it was read from
pub spell_field : (w : ℕ) (s : List ℕ) (at : ℕ) → Bytes s → at + w ≤ length s → spell w (field w s at) ≡ take w (drop at s)
unfolding field spell
spell_field zero s at b h = refl
spell_field (suc w) s at b h =
    let l : w < length (drop at s) = simp length-drop (omega arith) in
    rw (digits_div (field w s at) (b (at + w)), digits_mod (field w s at) (b (at + w)), spell_field w s at b (omega arith), take-suc (drop at s) w 0, get_or-drop)

-- only a number's last digits are spelt
pub spell_mod : (w v : ℕ) → spell w (v % 256 ^ w) ≡ spell w v
spell_mod w v =
    let n : length (spell w v) ≡ w = length_spell w v in
    ap (spell w) (sym (field_spell w v []) ∙ rw append-nil)
    ∙ spell_field w (spell w v) 0 (bytes_spell w v) (omega arith)
    ∙ take_all w (spell w v) (omega arith)

-- ---- what is read at an index where a piece stands

module _ (s : List ℕ) (at : ℕ) where
  pub field_here : (w v : ℕ) (rest : List ℕ) → drop at s ≡ spell w v ++ rest → v < 256 ^ w → field w s at ≡ v
  field_here w v rest e l =
      ap (field w s) (sym (add-zero at)) ∙ sym (field_drop w at s 0) ∙ ap (λ (r : List ℕ). field w r 0) e ∙ field_spell w v rest ∙ mod-eq_of_lt l

  pub byte_here : (v : ℕ) (rest : List ℕ) → drop at s ≡ v ∷ rest → get_or s at 0 ≡ v
  byte_here v rest e = ap (λ (k : ℕ). get_or s k 0) (sym (add-zero at)) ∙ sym (get_or-drop at s 0 0) ∙ ap (λ (r : List ℕ). get_or r 0 0) e

-- ---- a field of a front that holds it

pub field_take : (w n : ℕ) (s : List ℕ) (at : ℕ) → at + w ≤ n → field w (take n s) at ≡ field w s at
unfolding field
field_take zero n s at h = refl
field_take (suc w) n s at h = rw (field_take w n s at (omega arith), get_or-take n s (at + w) 0 (omega arith))
