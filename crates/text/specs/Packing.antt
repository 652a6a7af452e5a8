-- How descriptors fill responses of a given room: whole ones only, in their order. Assumes nothing: these are definitions.
use Rattle.std.specs.Prelude.{true, false, List, [], ◌∷◌, ◌++◌, ℕ, zero, suc, ◌+◌, ◌-◌, leb, length}
use Rattle.text.specs.Drive.{Desc}

-- the bytes of a descriptor, and of a list of them
abbrev pub size : Desc → ℕ
size d = 4 + length d.body

unfoldable pub total : List Desc → ℕ
total [] = 0
total (d ∷ ds) = size d + total ds

-- the longest front that fits into the room, and what it leaves
unfoldable pub whole : (room : ℕ) → List Desc → List Desc
whole room [] = []
whole room (d ∷ ds) = elim (leb (size d) room) [ true ↦ d ∷ whole (room - size d) ds | false ↦ [] ]

unfoldable pub rest : (room : ℕ) → List Desc → List Desc
rest room [] = []
rest room (d ∷ ds) = elim (leb (size d) room) [ true ↦ rest (room - size d) ds | false ↦ d ∷ ds ]

-- one round after the other, each with the same room: what each takes. The round that leaves nothing is the last; there are at most n
unfoldable pub groups : (room n : ℕ) → List Desc → List (List Desc)
groups room zero ds = []
groups room (suc n) ds = elim (rest room ds) [ [] ↦ whole room ds ∷ [] | d ∷ r ↦ whole room ds ∷ groups room n (d ∷ r) ]

-- what all rounds take, one after the other
unfoldable pub joined : List (List Desc) → List Desc
joined [] = []
joined (g ∷ gs) = g ++ joined gs

-- how often a further round is begun, where `left` is left of the first
unfoldable pub cuts : (room left : ℕ) → List Desc → ℕ
cuts room left [] = 0
cuts room left (d ∷ ds) = elim (leb (size d) left) [ true ↦ cuts room (left - size d) ds | false ↦ suc (cuts room (room - size d) ds) ]
