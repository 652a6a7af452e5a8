-- What a box answers that holds an image in place of a sheet. Assumes nothing: these are definitions.
use Rattle.std.specs.Prelude.{List, ℕ}
use Rattle.refusal.specs.First.{◌or_else◌}
use Rattle.lent.specs.Maker.{Outcome, makes}
use Rattle.command.specs.Command.{command_fault, rt_of, sfn_of, allocation_of}
use Rattle.text.specs.Response.{sent}
use Rattle.reading.specs.Places.{descs}
use Rattle.capture.specs.Capture.{captured, capture_fault}

-- the answer to the command c from any image i: import's numbers but 42, then 9 to 11; 12 where the buffer d is too short for the bytes due, else these:
-- those of the drive that the image describes
unfoldable pub image_answered : (i c d : List ℕ) → Outcome
image_answered i c d = makes (capture_fault i or_else command_fault c) 12 (sent (rt_of c) (sfn_of c) (allocation_of c) (captured (descs i))) d
