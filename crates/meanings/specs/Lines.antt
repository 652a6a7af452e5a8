-- The lines of a text. Assumes nothing: these are definitions.
use Rattle.std.specs.Prelude.{Bool, true, false, List, [], ◌∷◌, ℕ, zero, suc, ◌-◌, eqb}

-- a byte that ends a line: 10
abbrev pub is_end : (byte : ℕ) → Bool
is_end byte = eqb byte 10

-- of so many lines to pass, those that are left behind a byte: a line end, 10, passes one
unfoldable pub lines_left : (left byte : ℕ) → ℕ
lines_left left byte = elim (eqb byte 10) [ true ↦ left - 1 | false ↦ left ]

-- what stands behind so many line ends
unfoldable pub behind_lines : List ℕ → ℕ → List ℕ
behind_lines [] n = []
behind_lines (x ∷ s) zero = x ∷ s
behind_lines (x ∷ s) (suc n) = behind_lines s (lines_left (suc n) x)

-- what stands before the first line end
unfoldable pub up_to_end : List ℕ → List ℕ
up_to_end [] = []
up_to_end (x ∷ s) = elim (eqb x 10) [ true ↦ [] | false ↦ x ∷ up_to_end s ]

-- the line that has so many before it, without its end
unfoldable pub text_line : ℕ → List ℕ → List ℕ
text_line n s = up_to_end (behind_lines s n)
