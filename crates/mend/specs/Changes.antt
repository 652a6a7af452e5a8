-- The changes between two byte strings, and undoing them. Assumes nothing: these are definitions.
use Rattle.std.specs.Prelude.{Bool, true, false, List, [], ◌∷◌, ◌++◌, ℕ, suc, ◌+◌, ◌*◌, ◌/◌, ◌%◌, eqb, set}

-- a change: the place, counted from the response's first byte, the byte that stood there, and the byte that stands there now
pub record Change : Type 0 where
  pub place : ℕ
  pub old : ℕ
  pub new : ℕ

-- that of a place, if its bytes differ
abbrev pub if_other : Bool → Change → List Change
if_other true c = []
if_other false c = c ∷ []

unfoldable pub change_at : (place old new : ℕ) → List Change
change_at place old new = if_other (eqb old new) (record { place = place; old = old; new = new })

-- those from a place on, where the first of each stands
unfoldable pub changes : (place : ℕ) → (old new : List ℕ) → List Change
changes place [] new = []
changes place (a ∷ old) [] = []
changes place (a ∷ old) (b ∷ new) = change_at place a b ++ changes (suc place) old new

-- each change undone, one after the other
unfoldable pub undo : List Change → List ℕ → List ℕ
undo [] s = s
undo (c ∷ cs) s = undo cs (set s c.place c.old)

-- a change as a number of four bytes: the place in its upper two bytes, then the old byte, then the new one
unfoldable pub note_of : Change → ℕ
note_of c = (c.place * 256 + c.old) * 256 + c.new

unfoldable pub notes : List Change → List ℕ
notes [] = []
notes (c ∷ cs) = note_of c ∷ notes cs

-- the change that such a number tells, and those of a list
unfoldable pub change_in : ℕ → Change
change_in n = record { place = n / 65536; old = n / 256 % 256; new = n % 256 }

unfoldable pub listed : List ℕ → List Change
listed [] = []
listed (n ∷ ns) = change_in n ∷ listed ns
