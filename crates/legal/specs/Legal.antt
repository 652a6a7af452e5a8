-- The paper's table of lengths and body bits. Assumes nothing: these are definitions.
use Rattle.std.specs.Prelude.{Bool, true, false, List, [], ◌∷◌, ◌++◌, ℕ, suc, ◌+◌, ◌-◌, ◌*◌, ◌^◌, eqb}
use Rattle.legal.specs.declared.Length.{Length}
use Rattle.legal.specs.declared.Length.TheVariants.{Any, Exactly, Counted}
use Rattle.legal.specs.declared.Masks.{Masks}
use Rattle.legal.specs.declared.Row.{Row}
use Rattle.fields.specs.Field.{spell}
use Rattle.base.specs.Pick.{pick}

-- bit k of a byte; bits h to l; all and none
abbrev pub bit_at : ℕ → ℕ
bit_at k = 2 ^ k

abbrev pub bits : ℕ → ℕ → ℕ
bits h l = 2 ^ suc h - 2 ^ l

abbrev pub any_bits : ℕ
any_bits = bits 7 0

abbrev pub no_bits : ℕ
no_bits = 0

-- four bytes as a word, the first in its highest bits
abbrev pub word : (a b c d : ℕ) → ℕ
word a b c d = ((a * 256 + b) * 256 + c) * 256 + d

-- the masks of twelve bytes by place; of a body of four bytes; of a list of four-byte records
abbrev pub twelve : (a b c d e f g h i j k l : ℕ) → Masks
twelve a b c d e f g h i j k l = record { 0 = word a b c d; 1 = word e f g h; 2 = word i j k l }

abbrev pub four : (a b c d : ℕ) → Masks
four a b c d = twelve a b c d no_bits no_bits no_bits no_bits no_bits no_bits no_bits no_bits

abbrev pub fours : (a b c d : ℕ) → Masks
fours a b c d = twelve a b c d a b c d a b c d

-- the twelve bytes again
unfoldable pub mask_bytes : Masks → List ℕ
mask_bytes m = spell 4 m.0 ++ spell 4 m.1 ++ spell 4 m.2

abbrev pub free : Bool
free = false

abbrev pub barred : Bool
barred = true

abbrev pub row : ℕ → Length → Masks → Bool → Row
row f l m b = record { 0 = record { 0 = f }; 1 = l; 2 = m; 3 = b }

-- feature, length, the bits that may be 1 in bytes 4 to 15 (and so in each twelve bytes of a longer body; of Counted only in the first four), and
-- whether Persistent is barred where 0003h is reported
unfoldable pub legal : List Row
legal =
    row 0x0000 Any (fours any_bits any_bits (bit_at 0) no_bits) free ∷
    row 0x0001 (Exactly 4) (four any_bits any_bits any_bits any_bits) free ∷
    row 0x0002 (Exactly 4) (four (bit_at 0) no_bits no_bits no_bits) free ∷
    row 0x0003 (Exactly 4) (four (bits 7 5 + bits 3 2 + bit_at 0) no_bits no_bits no_bits) free ∷
    row 0x001F (Exactly 0) (four no_bits no_bits no_bits no_bits) barred ∷
    row 0x0020 (Exactly 12) (twelve any_bits any_bits any_bits any_bits any_bits any_bits any_bits any_bits any_bits any_bits (bit_at 0) no_bits) barred ∷
    row 0x0021 Counted (four no_bits no_bits no_bits any_bits) barred ∷
    row 0x0026 (Exactly 4) (four any_bits any_bits any_bits any_bits) barred ∷
    row 0x002D (Exactly 4) (four (bits 2 0) no_bits no_bits no_bits) barred ∷
    row 0x002E (Exactly 4) (four (bits 5 0) any_bits any_bits any_bits) barred ∷
    row 0x002F (Exactly 4) (four (bit_at 2) no_bits no_bits no_bits) barred ∷ []

-- any other feature: any length, any bits
unfoldable pub other : Row
other = row 0xFFFF Any (fours any_bits any_bits any_bits any_bits) free

-- the row of a feature
unfoldable pub row_of : ℕ → Row
row_of f = pick (λ r. eqb r.0.0 f) (λ r. r) other legal
