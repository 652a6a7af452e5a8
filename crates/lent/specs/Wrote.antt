-- What a writer into lent memory does. Assumes nothing: these are definitions.
use Rattle.std.specs.Prelude.{◌≡◌, List, ℕ, ◌+◌, ◌-◌, min, length}
use Rattle.std.proofs.lemmas.List.Edits.{sets}

-- From index `at` of the buffer d the elements xs were written as far as d has room, and nothing else was: r is the index behind the
-- last one written (`at` if none was), and e is the buffer afterwards.
pub record Wrote {A : Type 0} (d : List A) (at : ℕ) (xs : List A) (r : ℕ) (e : List A) : Type 0 where
  pub next : r ≡ at + min (length xs) (length d - at)
  pub holds : e ≡ sets d at xs
