-- The worked recorder of the paper: sheet E, and a command. Assumes nothing: these are definitions.
use Rattle.std.specs.Prelude.{List, [], ◌∷◌, ◌++◌, ℕ, set}
use Rattle.command.specs.Command.{command_bytes}
use Rattle.layout.specs.declared.Layout.TheVariants.{Rows}
use Rattle.layout.specs.Layout.{Sheet, stored}

unfoldable pub sheet_e : Sheet
sheet_e = stored Rows (
    (0x00 ∷ 0x04 ∷ 0x00 ∷ 0x02 ∷ [])
    ++ (0x00 ∷ 0x01 ∷ 0x03 ∷ 0x04 ∷ 0x00 ∷ 0x00 ∷ 0x00 ∷ 0x2C ∷ [])
    ++ (0x00 ∷ 0x03 ∷ 0x03 ∷ 0x04 ∷ 0x00 ∷ 0x00 ∷ 0x00 ∷ 0x30 ∷ [])
    ++ (0x00 ∷ 0x1F ∷ 0x01 ∷ 0x00 ∷ 0x00 ∷ 0x00 ∷ 0x00 ∷ 0x34 ∷ [])
    ++ (0x01 ∷ 0x05 ∷ 0x03 ∷ 0x00 ∷ 0x00 ∷ 0x00 ∷ 0x00 ∷ 0x34 ∷ [])
    ++ (0x00 ∷ 0x12 ∷ 0x01 ∷ 0x00 ∷ [])
    ++ (0x00 ∷ 0x10 ∷ 0x00 ∷ 0x00 ∷ [])
    ++ (0x00 ∷ 0x00 ∷ 0x00 ∷ 0x02 ∷ [])
    ++ (0x29 ∷ 0x00 ∷ 0x00 ∷ 0x00 ∷ []))

-- sheet E with the flags of 001Fh made 00h
unfoldable pub sheet_e' : Sheet
sheet_e' = stored Rows (set sheet_e.bytes 22 0x00)

-- the command of 10 bytes with this RT, Starting Feature Number and allocation length, every other bit 0
unfoldable pub command : (rt sfn a : ℕ) → List ℕ
command rt sfn a = command_bytes 10 rt sfn a
