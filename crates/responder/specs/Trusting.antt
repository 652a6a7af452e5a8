-- What a box answers that does not check its sheet: defined for any bytes, by index of the sheet's entries. From an accepted sheet it is the answer of
-- `Answer` (`trusting_accepted`). Assumes nothing: these are definitions.
use Rattle.std.specs.Prelude.{List, ℕ}
use Rattle.refusal.specs.First.{unless}
use Rattle.lent.specs.Maker.{Outcome, refusing}
use Rattle.command.specs.Command.{command_fault, rt_of, sfn_of, allocation_of}
use Rattle.layout.specs.Layout.{Sheet}
use Rattle.responder.specs.Sized.{sized}
use Rattle.responder.specs.inner.Index.{taken_from, taken_size}

-- the answer to a request, from the first entry that it wants, with as many bytes behind the header as the entries have that it takes
unfoldable pub trusting : (s : Sheet) (rt sfn a : ℕ) (d : List ℕ) → Outcome
trusting s rt sfn a d = sized s rt sfn a (taken_from s sfn) (taken_size s rt sfn) d

-- the answer to a command: 9 to 11, then the request's
unfoldable pub trusting_command : (s : Sheet) (c d : List ℕ) → Outcome
trusting_command s c d = unless (command_fault c) (refusing d) (trusting s (rt_of c) (sfn_of c) (allocation_of c) d)
