-- The rules for one descriptor, in the paper's order. Assumes nothing: these are definitions.
use Rattle.std.specs.Prelude.{Bool, not, ◌&&◌, List, ℕ, ◌*◌, ◌/◌, leb, eqb, length}
use Rattle.fields.specs.Field.{field}
use Rattle.refusal.specs.declared.Refusal.{Refusal}
use Rattle.refusal.specs.First.{refuse, accept, ◌if◌else◌, ◌or_else◌, first_of}
use Rattle.text.specs.Flags.{newer, persistent, current, flags_giving}
use Rattle.text.specs.Drive.{Desc}
use Rattle.legal.specs.declared.Row.{Row}
use Rattle.legal.specs.Legal.{row_of}
use Rattle.legal.specs.Bodies.{byte_of, wrong_length, reserved_at, cue_rule}

-- 33: reserved flags. 34: Persistent without Current
unfoldable pub flags_fault : (flags : ℕ) → Refusal
flags_fault flags = flags_giving (refuse 33) (refuse 34) flags

-- 0000h to 0003h without both flags
unfoldable pub flags_short : (number flags : ℕ) → Bool
flags_short number flags = leb number 0x0003 && not (eqb (persistent flags) 1 && eqb (current flags) 1)

-- Persistent where the row bars it; removable says whether 0003h is reported
unfoldable pub flags_barred : (barred removable : Bool) (flags : ℕ) → Bool
flags_barred barred removable flags = barred && removable && eqb (persistent flags) 1

-- 31: wrong length. 32: flags not both 1. 35: Persistent with 0003h reported
unfoldable pub row_rule : Row → (removable : Bool) (number flags n len : ℕ) → Refusal
row_rule row removable number flags n len =
    refuse 31 if wrong_length row.1 flags n len else
    refuse 32 if flags_short number flags else
    refuse 35 if flags_barred row.3 removable flags else
    accept

-- 39: profile number 0
unfoldable pub profile_at : List ℕ → ℕ → Refusal
profile_at body i = refuse 39 if eqb (field 2 body (4 * i)) 0 else accept

unfoldable pub profiles_fault : (number : ℕ) → List ℕ → Refusal
profiles_fault number body = accept if not (eqb number 0x0000) else first_of (profile_at body) 0 (length body / 4)

-- what the body breaks: 36 anywhere in it, then 37, then 39; with a Version above 0 it is not looked at
unfoldable pub body_fault : Row → (number flags : ℕ) → List ℕ → Refusal
body_fault row number flags body =
    accept if newer flags else
    first_of (reserved_at row body) 0 (length body) or_else
    cue_rule number (byte_of body 4) (field 3 body 1) or_else
    profiles_fault number body

-- the first fault of a descriptor
unfoldable pub desc_fault : (removable : Bool) → Desc → Refusal
desc_fault removable d =
    flags_fault d.flags or_else
    row_rule (row_of d.number) removable d.number d.flags (byte_of d.body 7) (length d.body) or_else
    body_fault (row_of d.number) d.number d.flags d.body
