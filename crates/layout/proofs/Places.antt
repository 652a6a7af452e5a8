-- No two entries have their flags in one place, and no flags stand in another field's place, in either layout. Assumes nothing.
use mathlib.Core.Path.{◌≡◌}
use Prim.Native.Nat.{ℕ, ◌+◌, ◌≤◌, ◌<◌}
use native.Mathlib.Omega.{arith}
use Rattle.layout.specs.declared.Layout.{Layout}
use Rattle.layout.specs.declared.Layout.TheVariants.{Rows, Columns}
use Rattle.layout.specs.Layout.{number_place, flags_place, length_place, offset_place}

pub flags_behind : (l : Layout) (n i : ℕ) → 4 ≤ flags_place l n i
unfolding flags_place
flags_behind Rows n i = omega arith
flags_behind Columns n i = omega arith

pub flags_apart : (l : Layout) (n i j : ℕ) → i < j → flags_place l n i ≡ flags_place l n j → ⊥
unfolding flags_place
flags_apart Rows n i j h e = omega arith
flags_apart Columns n i j h e = omega arith

pub number_apart : (l : Layout) (n i j k : ℕ) → i < n → j < n → k < 2 → number_place l n i + k ≡ flags_place l n j → ⊥
unfolding number_place flags_place
number_apart Rows n i j k h m q e = omega arith
number_apart Columns n i j k h m q e = omega arith

pub length_apart : (l : Layout) (n i j : ℕ) → i < n → j < n → length_place l n i ≡ flags_place l n j → ⊥
unfolding length_place flags_place
length_apart Rows n i j h m e = omega arith
length_apart Columns n i j h m e = omega arith

pub offset_apart : (l : Layout) (n i j k : ℕ) → i < n → j < n → k < 4 → offset_place l n i + k ≡ flags_place l n j → ⊥
unfolding offset_place flags_place
offset_apart Rows n i j k h m q e = omega arith
offset_apart Columns n i j k h m q e = omega arith
