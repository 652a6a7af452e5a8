-- A descriptor at a place: what its fields are behind the end, and where the next one stands. Assumes nothing.
use borrow.Author.Tests.{lt-ltb, le-ltb, leb-true}
use lib.Dec.{leb}
use mathlib.Core.Bool.{Bool, true}
use mathlib.Core.Path.{◌≡◌, refl, sym, ap, ◌∙◌}
use mathlib.Core.List.{List, []}
use Prim.Native.Nat.{ℕ, ◌+◌, ◌≤◌, ◌<◌}
use native.Mathlib.Omega.{arith}
use lib.ListN.{length, take, drop, get_or, length-take, drop_of_length-le, get_or-eq_default}
use lib.Seq.{take-nil}
use denote.Ref.{Bor}
use Rattle.base.specs.Lists.{Bytes}
use Rattle.fields.specs.Part.{PartOf}
use Rattle.text.specs.Reading.{length_at, desc_at}
use Rattle.reading.specs.Places.{next_at}

module _ (s : List ℕ) (at : ℕ) where
  -- flags and Additional Length behind the end
  pub byte_behind : (k : ℕ) → length s ≤ at → 0 ≡ get_or s (at + k) 0
  byte_behind k h = sym (get_or-eq_default s 0 {n = at + k} (omega arith))

  pub next_behind : length s ≤ at → at ≡ next_at s at
  unfolding next_at
  next_behind h = rw (le-ltb at (length s) h, next_at)

  pub next_inside : (len : ℕ) → at < length s → len ≡ length_at s at → at + 4 + len ≡ next_at s at
  unfolding next_at
  next_inside len h e = rw (lt-ltb at (length s) h, next_at, e)

  pub next_is : (next : ℕ) → at < length s → next ≡ next_at s at → next ≡ at + 4 + length_at s at
  next_is next h e = e ∙ sym (next_inside (length_at s at) h refl)

  -- a body b is shorter than 256
  pub body_short : (b : List ℕ) → b ≡ (desc_at s at).body → Bytes s → length b < 256
  unfolding desc_at length_at
  body_short b e u = rw e (omega (arith, length-take (get_or s (at + 3) 0) (drop (at + 4) s), u (at + 3)))

-- where the four header bytes were received, each of them stands there
module _ (r : Bool) (at n : ℕ) (e : r ≡ leb (at + 4) n) (t : r ≡ true) where
  pub all_stand : at + 4 ≤ n
  all_stand = leb-true (at + 4) n (sym e ∙ t)

-- the empty part at the end is the body there
pub body_behind : (s r : Bor (List ℕ)) (at : ℕ) → length s.now ≤ at → PartOf s at (take 0 (drop at s.now)) r → PartOf s (at + 4) (desc_at s.now at).body r
unfolding desc_at
body_behind s r at h p =
    let k : length s.now ≤ at + 4 = omega arith in
    let e : take (length_at s.now at) (drop (at + 4) s.now) ≡ [] =
    ap (take (length_at s.now at)) (drop_of_length-le s.now k) ∙ take-nil (length_at s.now at) in
    record { holds = p.holds ∙ sym e; block = p.block; place = omega (arith, p.place) }
