-- Which line a refusal names, and the number that document 01 has for it. Assumes nothing: these are definitions.
use Rattle.std.specs.Prelude.{◌≡◌, Bool, true, false, ◌||◌, ℕ, suc, ◌<◌, eqb}
use Rattle.refusal.specs.declared.Refusal.{Refusal}

-- whether a refusal with this number has the place of an entry, and whether it has a place: of an entry, or with 3 of a profile
unfoldable pub of_entry : ℕ → Bool
of_entry n = eqb n 4 || eqb n 5 || eqb n 44 || eqb n 6 || eqb n 7

unfoldable pub has_place : ℕ → Bool
has_place n = eqb n 3 || of_entry n

-- the number of document 01, which has 5 for all faults of flags
unfoldable pub old : ℕ → ℕ
old n = elim (eqb n 44) [ true ↦ 5 | false ↦ n ]

-- the place is 0 exactly where the number has none
abbrev pub RightPlace : Refusal → Type 0
RightPlace r = (r.place ≡ 0 → has_place r.number ≡ false) × (has_place r.number ≡ false → r.place ≡ 0)

-- a place, counted from 1, is that of a bad one of n lines, and all lines before it are good
pub record Names (Bad Good : ℕ → Type 0) (n place : ℕ) : Type 0 where
  pub named : ℕ
  pub counted_from_1 : place ≡ suc named
  pub among : named < n
  pub is_bad : Bad named
  pub good_before : (j : ℕ) → j < named → Good j
