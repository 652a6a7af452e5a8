-- Which bytes a text spells, and what is made of a lent buffer. Assumes nothing: these are definitions.
use Rattle.std.specs.Prelude.{Bool, true, false, List, [], ◌∷◌, ◌++◌, ℕ, zero, suc, eqb, ltb, length, drop}
use Rattle.hex_text.specs.declared.State.{State}
use Rattle.hex_text.specs.declared.Effect.{Effect}
use Rattle.hex_text.specs.declared.Spelt.{Spelt}
use Rattle.hex_text.specs.Chars.{choose, line_at}
use Rattle.hex_text.specs.Front.{opened}
use Rattle.hex_text.specs.Steps.{step}

-- the bytes, and the first line that is none, counted from 1; 0: every line is one
pub record Spelling : Type 0 where
  pub bytes : List ℕ
  pub line : ℕ

-- the byte that is spelt, if one is
unfoldable pub some : (spells : Bool) (byte : ℕ) → List ℕ
some true b = b ∷ []
some false b = []

-- the text ends: half a byte is none
unfoldable pub ended : State → List ℕ → ℕ → Spelling
ended q s i = choose (ltb q.half 16) (record { bytes = []; line = line_at s i }) (record { bytes = []; line = 0 })

-- a character, and what is left
unfoldable pub taken : Effect → Spelling → List ℕ → ℕ → Spelling
taken x rest s i = choose x.fault (record { bytes = []; line = line_at s i }) (record { bytes = some x.spells x.byte ++ rest.bytes; line = rest.line })

-- what n characters spell from index i on
unfoldable pub spelling : (n : ℕ) → State → List ℕ → ℕ → Spelling
spelling zero q s i = ended q s i
spelling (suc n) q s i = taken (step q s i) (spelling n (step q s i).state s (suc i)) s i

-- what a text spells
unfoldable pub spelled : List ℕ → Spelling
spelled s = spelling (length s) (opened false false s 0) s 0

-- the answer, and the buffer afterwards
pub record Outcome : Type 0 where
  pub told : Spelt
  pub buffer : List ℕ

abbrev pub outcome : Spelt → List ℕ → Outcome
outcome r d = record { told = r; buffer = d }

-- of a spelling and the buffer d: the line, the count 0 and nothing changed; the count alone where it has no room; else the bytes at the front
unfoldable pub given : Spelling → List ℕ → Outcome
given x d =
    choose (eqb x.line 0)
    (outcome (record { line = 0; count = length x.bytes }) (choose (ltb (length d) (length x.bytes)) d (x.bytes ++ drop (length x.bytes) d)))
    (outcome (record { line = x.line; count = 0 }) d)
