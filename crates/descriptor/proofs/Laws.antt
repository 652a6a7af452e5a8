-- What stands at a place, by how many bytes there are. Assumes nothing.
use mathlib.Core.Path.{◌≡◌, sym, ◌∙◌}
use mathlib.Core.Bool.{true}
use mathlib.Core.List.{List}
use Prim.Native.Nat.{ℕ, ◌+◌, ◌-◌, ◌≤◌, ◌<◌}
use native.Mathlib.Decide.{dec_le}
use native.Mathlib.Omega.{arith}
use lib.ListN.{length, get_or}
use borrow.Author.Tests.{le-leb, lt-leb}
use Rattle.fields.specs.Field.{field}
use Rattle.text.specs.Reading.{number_at, flags_at, length_at}
use Rattle.descriptor.specs.declared.Standing.{Standing}
use Rattle.descriptor.specs.Standing.{nothing_stands, whole_at, stands_at}

module _ (s : List ℕ) (at : ℕ) where
  pub stands_few : length s < at + 4 → stands_at s at ≡ nothing_stands
  unfolding stands_at
  stands_few h = rw (lt-leb (at + 4) (length s) h, stands_at)

  pub stands_cut : length s < at + 4 + length_at s at → stands_at s at ≡ nothing_stands
  unfolding stands_at
  stands_cut h = elim (dec_le (at + 4) (length s)) [
    | yes l ↦ rw (le-leb (at + 4) (length s) l, lt-leb (at + 4 + length_at s at) (length s) h, stands_at)
    | no l ↦ stands_few (omega arith)
  ]

  pub stands_whole : at + 4 + length_at s at ≤ length s → stands_at s at ≡ whole_at s at
  unfolding stands_at
  stands_whole h =
      let l : at + 4 ≤ length s = omega arith in
      rw (le-leb (at + 4) (length s) l, le-leb (at + 4 + length_at s at) (length s) h, stands_at)

-- as the code finds out, with what it answers
module _ (s : List ℕ) (at : ℕ) (r : Standing) (n : r ≡ nothing_stands) where
  pub short_response : length s < 4 → r ≡ stands_at s at
  short_response h = n ∙ sym (stands_few s at (omega arith))

  pub short_head : 4 ≤ length s → length s - 4 < at → r ≡ stands_at s at
  short_head l h = n ∙ sym (stands_few s at (omega arith))

  pub short_body : (len : ℕ) → len ≡ get_or s (at + 3) 0 → length s < at + 4 + len → r ≡ stands_at s at
  unfolding length_at
  short_body len e h = n ∙ sym (stands_cut s at (rw (← e) h))

pub whole_body : (s : List ℕ) (at number flags len : ℕ) → number ≡ field 2 s at → flags ≡ get_or s (at + 2) 0 → len ≡ get_or s (at + 3) 0 → at + 4 + len ≤ length s
    → record { whole = true; number = record { 0 = number }; flags = record { 0 = flags }; body = at + 4; len = len; next = at + 4 + len } ≡ stands_at s at
unfolding whole_at number_at flags_at length_at
whole_body s at number flags len a b c h = rw (a, b, c) (sym (stands_whole s at (rw (← c) h)))
