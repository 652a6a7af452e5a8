-- What the box answers: a maker of the bytes sent. Assumes nothing: these are definitions.
use Rattle.std.specs.Prelude.{List, ℕ}
use Rattle.refusal.specs.First.{accept, ◌or_else◌}
use Rattle.lent.specs.Maker.{Outcome, makes}
use Rattle.command.specs.Command.{command_fault, rt_of, sfn_of, allocation_of}
use Rattle.text.specs.Response.{sent}
use Rattle.layout.specs.Layout.{Sheet}
use Rattle.sheet.specs.Check.{verdict}
use Rattle.sheet.specs.Meaning.{meaning}

-- the bytes that are due for the command c from the sheet s
abbrev pub due : (s : Sheet) (c : List ℕ) → List ℕ
due s c = sent (rt_of c) (sfn_of c) (allocation_of c) (meaning s)

-- the answer to a request, where the sheet s is accepted: 12 where the buffer d is too short for the bytes due, else these
unfoldable pub requested : (s : Sheet) (rt sfn a : ℕ) (d : List ℕ) → Outcome
requested s rt sfn a d = makes accept 12 (sent rt sfn a (meaning s)) d

-- the answer to a command: 9 to 11 first
unfoldable pub commanded : (s : Sheet) (c d : List ℕ) → Outcome
commanded s c d = makes (command_fault c) 12 (due s c) d

-- the answer to a command from any sheet: the sheet's numbers first
unfoldable pub answered : (s : Sheet) (c d : List ℕ) → Outcome
answered s c d = makes (verdict s or_else command_fault c) 12 (due s c) d
