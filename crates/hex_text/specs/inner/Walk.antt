-- What a walk over a text leaves. Assumes nothing: these are definitions.
use Rattle.std.specs.Prelude.{◌≡◌, List, ℕ, eqb, length}
use Rattle.std.proofs.lemmas.List.Edits.{sets}
use Rattle.hex_text.specs.declared.Spelt.{Spelt}
use Rattle.hex_text.specs.Chars.{choose}
use Rattle.hex_text.specs.Text.{Spelling}

-- the answer at the end of a walk that counted so many bytes
unfoldable pub finished : Spelling → (count : ℕ) → Spelt
finished x count = choose (eqb x.line 0) (record { line = 0; count = count }) (record { line = x.line; count = 0 })

-- of the spelling x and the buffer d: the answer r; and where every line is one, e is the buffer with the bytes put as far as there is room
pub record Walked (x : Spelling) (d : List ℕ) (r : Spelt) (e : List ℕ) : Type 0 where
  pub told : r ≡ finished x (length x.bytes)
  pub holds : x.line ≡ 0 → e ≡ sets d 0 x.bytes
