-- What a maker answers: a function that writes bytes to the front of a lent buffer, or refuses. Assumes nothing: these are definitions.
use Rattle.std.specs.Prelude.{List, ◌++◌, ℕ, ltb, length, drop}
use Rattle.refusal.specs.declared.Refusal.{Refusal}
use Rattle.refusal.specs.First.{refuse, accept, ◌if◌else◌, ◌or_else◌, unless}
use Rattle.lent.specs.declared.Made.{Made}

-- the answer, and the buffer afterwards
pub record Outcome : Type 0 where
  pub made : Made
  pub buffer : List ℕ

abbrev pub outcome : Made → List ℕ → Outcome
outcome m d = record { made = m; buffer = d }

-- a refusal: its number, the count 0
abbrev pub refused : Refusal → Made
refused r = record { refusal = r; count = 0 }

-- so many bytes
abbrev pub written : (count : ℕ) → Made
written count = record { refusal = accept; count = count }

-- refused: nothing of the buffer d changed
unfoldable pub refusing : (d : List ℕ) → Refusal → Outcome
refusing d r = outcome (refused r) d

-- made: the bytes xs at the front of the buffer d, the rest as before
unfoldable pub making : (xs d : List ℕ) → Outcome
making xs d = outcome (written (length xs)) (xs ++ drop (length xs) d)

-- the refusal r; then `short`, the number for a buffer that is too short for the bytes xs; else these are made
unfoldable pub makes : Refusal → (short : ℕ) → (xs d : List ℕ) → Outcome
makes r short xs d = unless (r or_else refuse short if ltb (length d) (length xs) else accept) (refusing d) (making xs d)
