-- A response to RT 0 from 0 that has to be complete. Assumes nothing: these are definitions.
use Rattle.std.specs.Prelude.{not, List, ℕ, eqb, length}
use Rattle.refusal.specs.declared.Refusal.{Refusal}
use Rattle.refusal.specs.First.{refuse, accept, ◌if◌else◌, ◌or_else◌, unless}
use Rattle.text.specs.declared.Reading.{Reading}
use Rattle.text.specs.Response.{return_limit}
use Rattle.text.specs.Reading.{stated_end, read_fault, nothing_read, reading}

-- why it is refused: the reading's numbers, then 29: it is cut
unfoldable pub complete_fault : List ℕ → Refusal
complete_fault s =
    read_fault return_limit 0 0 s or_else
    refuse 29 if not (eqb (length s) (stated_end s)) else
    accept

-- its reading
unfoldable pub completed : List ℕ → Reading
completed s = unless (complete_fault s) nothing_read (reading return_limit 0 0 s)
