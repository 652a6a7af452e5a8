-- The flags byte of a descriptor: bits 7-6 reserved, 5-2 Version, 1 Persistent, 0 Current. Assumes nothing: these are definitions.
use Rattle.std.specs.Prelude.{Bool, not, ◌&&◌, ◌||◌, ℕ, ◌/◌, ◌%◌, eqb}
use Rattle.refusal.specs.declared.Refusal.{Refusal}
use Rattle.refusal.specs.First.{accept, ◌if◌else◌, ◌or_else◌}

abbrev pub reserved : ℕ → ℕ
reserved f = f / 64

abbrev pub version : ℕ → ℕ
version f = f / 4 % 16

abbrev pub persistent : ℕ → ℕ
persistent f = f / 2 % 2

abbrev pub current : ℕ → ℕ
current f = f % 2

-- a Version above 0: the feature may have more than the text says of it
abbrev pub newer : ℕ → Bool
newer f = not (eqb (version f) 0)

-- Persistent without Current
abbrev pub alone : ℕ → Bool
alone f = eqb (persistent f) 1 && not (eqb (current f) 1)

-- reserved bits not 0, or Persistent without Current
abbrev pub odd : ℕ → Bool
odd f = not (eqb (reserved f) 0) || alone f

-- the first refusal of a flags byte, where whoever asks gives a refusal for each rule: reserved bits not 0; Persistent without Current. The Version
-- may be any
unfoldable pub flags_giving : (bits lone : Refusal) (flags : ℕ) → Refusal
flags_giving bits lone f =
    (bits if not (eqb (reserved f) 0) else accept) or_else
    (lone if alone f else accept)
