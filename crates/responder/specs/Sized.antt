-- What a box answers that does not check its sheet and is told at which entry the wanted ones start and how many bytes stand behind the header, with no
-- search and no look at the entries to add them up: defined for any numbers. Told the request's own, it is the answer of `Trusting`. Assumes nothing: these
-- are definitions.
use Rattle.std.specs.Prelude.{List, ℕ, ltb, length, take}
use Rattle.refusal.specs.First.{refuse, accept, ◌if◌else◌, unless}
use Rattle.lent.specs.Maker.{Outcome, refusing, making}
use Rattle.layout.specs.Layout.{Sheet}
use Rattle.responder.specs.inner.Index.{plan_of, full_bytes, limit}

-- the answer to a request: 12 where the buffer is shorter than what is due, else what is due, or all there is where that is less
unfoldable pub sized : (s : Sheet) (rt sfn a from size : ℕ) (d : List ℕ) → Outcome
sized s rt sfn a from size d =
    unless (refuse 12 if ltb (length d) (limit a size) else accept) (refusing d) (making (take (limit a size) (full_bytes s (plan_of s rt sfn from size))) d)
