-- The laws of `past`, as a loop that looks for the end of a class's characters holds them. Assumes nothing.
use mathlib.Core.Path.{◌≡◌, sym, ap, ◌∙◌}
use mathlib.Core.Bool.{Bool, true, false, not}
use borrow.Author.Tests.{not-true, not-false}
use mathlib.Core.List.{List}
use Prim.Native.Nat.{ℕ, suc, ◌+◌, ◌-◌, ◌≤◌, ◌<◌}
use native.Mathlib.Numerals.{add-one}
use native.Mathlib.Omega.{arith}
use lib.ListN.{length}
use Rattle.hex_text.specs.declared.Class.{Class}
use Rattle.hex_text.specs.Chars.{at, is_a, past_of, past}
use Rattle.hex_text.proofs.Cases.{choose_yes, choose_no}

module _ (k : Class) (s : List ℕ) where
  -- another character
  pub past_here : (i : ℕ) → i < length s → is_a k (at s i) ≡ false → past k s i ≡ i
  unfolding past past_of
  past_here i h e =
      let n : length s - i ≡ suc (length s - suc i) = omega arith in
      rw n (choose_no (is_a k (at s i)) _ _ e)

  pub past_next : (i : ℕ) → i < length s → is_a k (at s i) ≡ true → past k s i ≡ past k s (i + 1)
  unfolding past past_of
  past_next i h e =
      let n : length s - i ≡ suc (length s - suc i) = omega arith in
      rw (add-one, n) (choose_yes (is_a k (at s i)) _ _ e)

  pub past_out : (i : ℕ) → length s ≤ i → past k s i ≡ i
  unfolding past past_of
  past_out i h =
      let n : length s - i ≡ 0 = omega arith in
      rw n

  -- the same from where a loop started; the character c at i was looked at
  module _ (from i : ℕ) (inv : past k s from ≡ past k s i) where
    pub past_stops : (c : ℕ) (r : Bool) → i < length s → c ≡ at s i → r ≡ is_a k c → not r ≡ true → i ≡ past k s from
    past_stops c r h e f g = sym (inv ∙ past_here i h (ap (is_a k) (sym e) ∙ sym f ∙ not-true r g))

    pub past_goes : (c : ℕ) (r : Bool) → i < length s → c ≡ at s i → r ≡ is_a k c → not r ≡ false → past k s from ≡ past k s (i + 1)
    past_goes c r h e f g = inv ∙ past_next i h (ap (is_a k) (sym e) ∙ sym f ∙ not-false r g)

    pub past_ends : length s ≤ i → i ≡ past k s from
    past_ends h = sym (inv ∙ past_out i h)
