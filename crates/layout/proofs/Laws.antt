-- Every field of an entry stands inside the contents, in either layout. Assumes nothing.
use Prim.Native.Nat.{ℕ, ◌+◌, ◌*◌, ◌≤◌, ◌<◌}
use native.Mathlib.Omega.{arith}
use Rattle.layout.specs.declared.Layout.{Layout}
use Rattle.layout.specs.declared.Layout.TheVariants.{Rows, Columns}
use Rattle.layout.specs.Layout.{number_place, flags_place, length_place, offset_place}

-- the four fields of entry i of n
pub record Inside (l : Layout) (n i : ℕ) : Type 0 where
  pub number : number_place l n i + 2 ≤ 4 + 8 * n
  pub flags : flags_place l n i + 1 ≤ 4 + 8 * n
  pub length : length_place l n i + 1 ≤ 4 + 8 * n
  pub offset : offset_place l n i + 4 ≤ 4 + 8 * n

pub fields_inside : (l : Layout) (n i : ℕ) → i < n → Inside l n i
unfolding number_place flags_place length_place offset_place
fields_inside Rows n i h = record { number = omega arith; flags = omega arith; length = omega arith; offset = omega arith }
fields_inside Columns n i h = record { number = omega arith; flags = omega arith; length = omega arith; offset = omega arith }
