-- What a box answers that does not check its image: defined for any bytes, by the places where descriptors stand in it. From an accepted image it is the
-- answer of `Rom` (`image_accepted`). Assumes nothing: these are definitions.
use Rattle.std.specs.Prelude.{List, ◌++◌, ℕ, length, take}
use Rattle.refusal.specs.First.{accept, unless}
use Rattle.lent.specs.Maker.{Outcome, refusing, makes}
use Rattle.command.specs.Command.{command_fault, rt_of, sfn_of, allocation_of}
use Rattle.text.specs.Response.{most}
use Rattle.rom.specs.inner.Standing.{head_of, wanted}

-- the whole response: what is wanted of the image, behind a header without what is passed over
unfoldable pub image_full : (i : List ℕ) (rt sfn : ℕ) → List ℕ
image_full i rt sfn = head_of i (length (wanted rt sfn i)) ++ wanted rt sfn i

-- the answer to a request: 12 where the buffer is shorter than what is due, else what is due
unfoldable pub image_requested : (i : List ℕ) (rt sfn a : ℕ) (d : List ℕ) → Outcome
image_requested i rt sfn a d = makes accept 12 (take (most a) (image_full i rt sfn)) d

-- the answer to a command: 9 to 11 first
unfoldable pub image_commanded : (i c d : List ℕ) → Outcome
image_commanded i c d = unless (command_fault c) (refusing d) (image_requested i (rt_of c) (sfn_of c) (allocation_of c) d)
