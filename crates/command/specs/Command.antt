-- The command: byte 0 the operation code 46h, bits 1-0 of byte 1 RT, bytes 2-3 the Starting Feature Number, bytes 7-8 the allocation length; all
-- else is reserved or control, or a pad, and ignored. It has 10 bytes, or 12 in a packet, whose last two are pads. Assumes nothing: these are
-- definitions.
use Rattle.std.specs.Prelude.{◌≡◌, Bool, true, not, ◌||◌, List, [], ◌∷◌, ◌++◌, ℕ, ◌%◌, eqb, ltb, length, get_or, take}
use Rattle.fields.specs.Field.{field, spell}
use Rattle.refusal.specs.declared.Refusal.{Refusal}
use Rattle.refusal.specs.First.{refuse, accept, ◌if◌else◌}
use Rattle.lent.specs.Maker.{Outcome, makes}
use Rattle.command.specs.declared.Command.{Command}

unfoldable pub opcode_of : List ℕ → ℕ
opcode_of c = get_or c 0 0

unfoldable pub rt_of : List ℕ → ℕ
rt_of c = get_or c 1 0 % 4

unfoldable pub sfn_of : List ℕ → ℕ
sfn_of c = field 2 c 2

unfoldable pub allocation_of : List ℕ → ℕ
allocation_of c = field 2 c 7

-- whether a command may have so many bytes
unfoldable pub command_length : ℕ → Bool
command_length n = eqb n 10 || eqb n 12

-- 9: neither 10 nor 12 bytes. 10: byte 0 not 46h. 11: RT 3
unfoldable pub command_fault : List ℕ → Refusal
command_fault c =
    refuse 9 if not (command_length (length c)) else
    refuse 10 if not (eqb (opcode_of c) 0x46) else
    refuse 11 if eqb (rt_of c) 3 else
    accept

unfoldable pub command_of : List ℕ → Command
command_of c = record { rt = rt_of c; sfn = record { 0 = sfn_of c }; allocation = allocation_of c }

-- two commands, each of 10 bytes or 12, that have the same bytes 0 to 8
pub record SameAsked (c e : List ℕ) : Type 0 where
  pub one : command_length (length c) ≡ true
  pub other : command_length (length e) ≡ true
  pub front : take 9 c ≡ take 9 e

-- ---- the command that a driver makes

-- the packet that asks for these, every other bit 0
unfoldable pub packet : (rt sfn a : ℕ) → List ℕ
packet rt sfn a = (0x46 ∷ rt ∷ []) ++ spell 2 sfn ++ (0 ∷ 0 ∷ 0 ∷ []) ++ spell 2 a ++ (0 ∷ 0 ∷ 0 ∷ [])

-- the command of n bytes that does: the packet, or the same without its pads
unfoldable pub command_bytes : (n rt sfn a : ℕ) → List ℕ
command_bytes n rt sfn a = take n (packet rt sfn a)

-- 9: to have neither 10 nor 12 bytes. 11: RT over 2
unfoldable pub ask_fault : (n rt : ℕ) → Refusal
ask_fault n rt =
    refuse 9 if not (command_length n) else
    refuse 11 if ltb 2 rt else
    accept

-- the answer, and the buffer d afterwards: what is refused of it, 12 where d is too short, or the command of n bytes
unfoldable pub built : (n rt sfn a : ℕ) (d : List ℕ) → Outcome
built n rt sfn a d = makes (ask_fault n rt) 12 (command_bytes n rt sfn a) d
