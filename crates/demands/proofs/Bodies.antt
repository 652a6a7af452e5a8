-- What the length and the bits of a body are held to, in plain numbers: when a length is wrong, and of a counted body which bits may be 1, byte by byte. Assumes
-- nothing.
use borrow.Author.Tests.{lt-ltb, le-ltb, eq-eqb, ne_eqb}
use mathlib.Core.Path.{◌≡◌, refl}
use mathlib.Core.Bool.{Bool, true, false, not, ◌&&◌, ◌||◌}
use mathlib.Core.List.{[], ◌∷◌}
use Prim.Native.Nat.{ℕ, ◌+◌, ◌/◌, ◌%◌, ◌≤◌, ◌<◌}
use native.Mathlib.Omega.{arith}
use lib.Dec.{eqb}
use Rattle.base.specs.Lists.{each}
use Rattle.base.specs.Pick.{pick}
use Rattle.fields.specs.Field.{spell}
use Rattle.legal.specs.declared.Length.{Length}
use Rattle.legal.specs.declared.Length.TheVariants.{Any, Exactly, Counted}
use Rattle.legal.specs.Legal.{mask_bytes, legal, other, row_of}
use Rattle.legal.specs.Bodies.{is_too_short, is_too_long, wrong_length, mask_at}

-- the bits that may be 1 in byte k of a body of 0021h that counts n
abbrev bits_at : (n k : ℕ) → ℕ
bits_at n k = mask_at (row_of 0x0021).1 (row_of 0x0021).2 n k

-- Of a body of len bytes and the flags of its descriptor, where its fourth byte is n: a length is never shorter than the one that the table has, and longer only
-- with a Version above 0; a counted body has 4 + n bytes and at most three pad bytes. Of that the fourth byte and the n bytes behind it may have any bits, the
-- three in front and the pad none.
pub record Bodies (flags n len : ℕ) : Type 0 where
  pub exactly : (l : ℕ) → len ≡ l → wrong_length (Exactly l) flags n len ≡ false
  pub short : (l : ℕ) → len < l → wrong_length (Exactly l) flags n len ≡ true
  pub long : (l : ℕ) → l < len → flags / 4 % 16 ≡ 0 → wrong_length (Exactly l) flags n len ≡ true
  pub longer : (l : ℕ) → l < len → (flags / 4 % 16 ≡ 0 → ⊥) → wrong_length (Exactly l) flags n len ≡ false
  pub padded : 4 + n ≤ len → len ≤ 4 + n + 3 → wrong_length Counted flags n len ≡ false
  pub under_count : len < 4 + n → wrong_length Counted flags n len ≡ true
  pub much_pad : 4 + n + 3 < len → flags / 4 % 16 ≡ 0 → wrong_length Counted flags n len ≡ true
  pub any_length_here : wrong_length Any flags n len ≡ false
  pub count_bits : each (bits_at n) 0 4 ≡ 0 ∷ 0 ∷ 0 ∷ 255 ∷ []
  pub counted_bits : (k : ℕ) → 4 ≤ k → k < 4 + n → bits_at n k ≡ 255
  pub pad_bits : (k : ℕ) → 4 + n ≤ k → bits_at n k ≡ 0

module _ (flags n len : ℕ) (w : Length) where
  neither : is_too_short w n len ≡ false → is_too_long w n len ≡ false → wrong_length w flags n len ≡ false
  unfolding wrong_length
  neither e f = rw (e, f) (go (not (eqb (flags / 4 % 16) 0)))
    where
      go : (b : Bool) → (false || not b && false) ≡ false
      go true = refl
      go false = refl

  too_short : is_too_short w n len ≡ true → wrong_length w flags n len ≡ true
  unfolding wrong_length
  too_short e = rw e

  too_long : is_too_short w n len ≡ false → is_too_long w n len ≡ true → flags / 4 % 16 ≡ 0 → wrong_length w flags n len ≡ true
  unfolding wrong_length
  too_long e f g = rw (e, f, eq-eqb (flags / 4 % 16) 0 g)

  with_version : is_too_short w n len ≡ false → (flags / 4 % 16 ≡ 0 → ⊥) → wrong_length w flags n len ≡ false
  unfolding wrong_length
  with_version e g = rw (e, ne_eqb (flags / 4 % 16) 0 g)

pub bodies : (flags n len : ℕ) → Bodies flags n len
unfolding legal row_of pick other mask_at mask_bytes spell each is_too_short is_too_long
bodies flags n len = record {
  exactly = λ l e. neither flags n len (Exactly l) (le-ltb len l (omega arith)) (le-ltb l len (omega arith));
  short = λ l h. too_short flags n len (Exactly l) (lt-ltb len l h);
  long = λ l h e. too_long flags n len (Exactly l) (le-ltb len l (omega arith)) (lt-ltb l len h) e;
  longer = λ l h e. with_version flags n len (Exactly l) (le-ltb len l (omega arith)) e;
  padded = λ a b. neither flags n len Counted (le-ltb len (4 + n) a) (le-ltb (4 + n + 3) len b);
  under_count = λ h. too_short flags n len Counted (lt-ltb len (4 + n) h);
  much_pad = λ h e. too_long flags n len Counted (le-ltb len (4 + n) (omega arith)) (lt-ltb (4 + n + 3) len h) e;
  any_length_here = neither flags n len Any refl refl;
  count_bits = refl;
  counted_bits = λ k a b. rw (le-ltb k 4 a, lt-ltb k (4 + n) b, mask_at);
  pad_bits = λ k a. rw (le-ltb k 4 (omega arith), le-ltb k (4 + n) a, mask_at);
}
