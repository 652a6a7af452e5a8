-- How long a body may be, and which of its bits may be 1: what check and mender share. Assumes nothing: these are definitions.
use Rattle.std.specs.Prelude.{Bool, true, false, not, ◌&&◌, ◌||◌, List, ℕ, ◌+◌, ◌-◌, ◌/◌, ◌%◌, ltb, eqb, get_or}
use Rattle.std.specs.Int.Bits.{bit_and}
use Rattle.refusal.specs.declared.Refusal.{Refusal}
use Rattle.refusal.specs.First.{refuse, accept, ◌if◌else◌}
use Rattle.text.specs.Flags.{newer}
use Rattle.legal.specs.declared.Length.{Length}
use Rattle.legal.specs.declared.Length.TheVariants.{Any, Exactly, Counted}
use Rattle.legal.specs.declared.Masks.{Masks}
use Rattle.legal.specs.declared.Row.{Row}
use Rattle.legal.specs.Legal.{any_bits, no_bits, mask_bytes}

-- byte k of a descriptor with this body, counted from the descriptor's start: byte 4 is the body's first
abbrev pub byte_of : List ℕ → ℕ → ℕ
byte_of body k = get_or body (k - 4) 0

-- a body of len bytes is shorter than the row says, or longer; n is byte 7
unfoldable pub is_too_short : Length → (n len : ℕ) → Bool
is_too_short Any n len = false
is_too_short (Exactly k) n len = ltb len k
is_too_short Counted n len = ltb len (4 + n)

unfoldable pub is_too_long : Length → (n len : ℕ) → Bool
is_too_long Any n len = false
is_too_long (Exactly k) n len = ltb k len
is_too_long Counted n len = ltb (4 + n + 3) len

-- never shorter than the row says, and longer only with a Version above 0
unfoldable pub wrong_length : Length → (flags n len : ℕ) → Bool
wrong_length wanted flags n len = is_too_short wanted n len || not (newer flags) && is_too_long wanted n len

-- the bits of body byte k that may be 1; n is byte 7
unfoldable pub mask_at : Length → (masks : Masks) (n k : ℕ) → ℕ
mask_at Any masks n k = get_or (mask_bytes masks) (k % 12) no_bits
mask_at (Exactly l) masks n k = get_or (mask_bytes masks) (k % 12) no_bits
mask_at Counted masks n k = elim (ltb k 4) [ true ↦ get_or (mask_bytes masks) k no_bits | false ↦ elim (ltb k (4 + n)) [ true ↦ any_bits | false ↦ no_bits ] ]

-- 36: a reserved body bit or pad byte not 0
unfoldable pub reserved_rule : (byte mask : ℕ) → Refusal
reserved_rule byte mask = refuse 36 if not (eqb (bit_and byte mask) byte) else accept

unfoldable pub reserved_at : Row → List ℕ → ℕ → Refusal
reserved_at row body k = reserved_rule (get_or body k 0) (mask_at row.1 row.2 (byte_of body 7) k)

-- 37: SAO, bit 5 of byte 4, is 0 and the cue sheet length, bytes 5 to 7, is not
unfoldable pub cue_rule : (number byte4 cue : ℕ) → Refusal
cue_rule number byte4 cue = refuse 37 if eqb number 0x002E && eqb (byte4 / 32 % 2) 0 && not (eqb cue 0) else accept
