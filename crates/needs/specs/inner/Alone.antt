-- The line and the descriptor of one feature. Assumes nothing: these are definitions.
use Rattle.std.specs.Prelude.{true, false, ◌&&◌, List, [], ◌∷◌, ℕ, zero, suc, eqb}
use Rattle.base.specs.Pick.{pick}
use Rattle.needs.specs.declared.table.Need.{Need}
use Rattle.needs.specs.Required.{marked}
use Rattle.needs.specs.Judge.{Said, says_conforms, says_broken}

-- a line without a mark, and the line of a column that names a feature; that one where there is none
abbrev pub no_need : Need
no_need = record { 0 = 0; 1 = record { 0 = 0 }; 2 = 0; 3 = 0; 4 = 0; 5 = 0 }

unfoldable pub line_in : (mark feature : ℕ) → List Need → Need
line_in m f ns = pick (λ n. marked m n && eqb n.1.0 f) (λ n. n) no_need ns

-- a line as a list, none where it has not the mark
unfoldable pub line_list : (mark : ℕ) → Need → List Need
line_list m n = elim (marked m n) [ true ↦ n ∷ [] | false ↦ [] ]

-- what is said of a feature with which this is wrong
unfoldable pub says_one : (feature wrong : ℕ) → Said
says_one f zero = says_conforms
says_one f (suc w) = says_broken f (suc w)
