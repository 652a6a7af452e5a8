-- Big-endian numbers of any width. Assumes nothing: these are definitions.
use Rattle.std.specs.Prelude.{List, [], ◌∷◌, ◌++◌, ℕ, zero, suc, ◌+◌, ◌*◌, ◌/◌, ◌%◌, get_or}

-- the number in the w bytes of s from index at on, the first the most significant; behind the end every byte counts as 0
unfoldable pub field : ℕ → List ℕ → ℕ → ℕ
field zero s at = 0
field (suc w) s at = field w s at * 256 + get_or s (at + w) 0

-- the w bytes that spell v, the first the most significant
unfoldable pub spell : ℕ → ℕ → List ℕ
spell zero v = []
spell (suc w) v = spell w (v / 256) ++ (v % 256 ∷ [])
