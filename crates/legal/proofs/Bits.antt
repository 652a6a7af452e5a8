-- The bits that may be 1 at a byte, case by case. Assumes nothing.
use borrow.Author.Tests.{lt-ltb, le-ltb}
use mathlib.Core.Path.{◌≡◌, sym, ap}
use mathlib.Core.List.{◌++◌}
use Prim.Native.Nat.{ℕ, ◌+◌, ◌%◌, ◌≤◌, ◌<◌}
use native.Mathlib.Omega.{arith}
use lib.ListN.{length, get_or, length-append, get_or-eq_default}
use Rattle.base.proofs.Compare.{NoneBelow, not_below}
use Rattle.fields.specs.Field.{spell}
use Rattle.fields.proofs.Laws.{length_spell}
use Rattle.legal.specs.declared.Length.{Length}
use Rattle.legal.specs.declared.Length.TheVariants.{Any, Exactly, Counted}
use Rattle.legal.specs.declared.Masks.{Masks}
use Rattle.legal.specs.Legal.{mask_bytes}
use Rattle.legal.specs.Bodies.{mask_at}

pub mask_behind : (masks : Masks) (j : ℕ) → NoneBelow 12 j → 0 ≡ get_or (mask_bytes masks) j 0
unfolding mask_bytes
mask_behind masks j h =
    let l : length (spell 4 masks.0 ++ spell 4 masks.1 ++ spell 4 masks.2) ≡ 12 = simp (length-append, length_spell) in
    sym (get_or-eq_default (spell 4 masks.0 ++ spell 4 masks.1 ++ spell 4 masks.2) 0 (omega (arith, l, not_below 12 j h)))

module _ (masks : Masks) (n k : ℕ) where
  pub counted_front : k < 4 → mask_at Counted masks n k ≡ get_or (mask_bytes masks) k 0
  unfolding mask_at
  counted_front h = rw (lt-ltb k 4 h, mask_at)

  pub counted_in : 4 ≤ k → k < 4 + n → mask_at Counted masks n k ≡ 255
  unfolding mask_at
  counted_in h l = rw (le-ltb k 4 h, lt-ltb k (4 + n) l, mask_at)

  pub counted_pad : 4 ≤ k → 4 + n ≤ k → mask_at Counted masks n k ≡ 0
  unfolding mask_at
  counted_pad h l = rw (le-ltb k 4 h, le-ltb k (4 + n) l, mask_at)

module _ (l : Length) (masks : Masks) (n k : ℕ) where
  pub mask_any : l ≡ Any → mask_at l masks n k ≡ get_or (mask_bytes masks) (k % 12) 0
  unfolding mask_at
  mask_any e = ap (λ (x : Length). mask_at x masks n k) e

  pub mask_exactly : (j : ℕ) → l ≡ Exactly j → mask_at l masks n k ≡ get_or (mask_bytes masks) (k % 12) 0
  unfolding mask_at
  mask_exactly j e = ap (λ (x : Length). mask_at x masks n k) e

  pub mask_counted : l ≡ Counted → mask_at l masks n k ≡ mask_at Counted masks n k
  mask_counted e = ap (λ (x : Length). mask_at x masks n k) e
