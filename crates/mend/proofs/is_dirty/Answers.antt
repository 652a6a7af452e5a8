-- `mend::is_dirty` meets its contract: each early return is a case of the test.
use mathlib.Core.Path.{◌≡◌}
use lib.ListN.{length}
use Rattle.refusal.specs.First.{first_of}
use Rattle.legal.specs.Bodies.{reserved_at}
use Rattle.mend.proofs.Steps.{dirty_other, dirty_newer, dirty_length, dirty_reserved, dirty_cue}
use Rattle.mend.proofs.is_dirty.Goals as goal

pub returns-then-row : goal.returns-then-row
returns-then-row c = search dirty_other

pub returns-then-version-ne0 : goal.returns-then-version-ne0
returns-then-version-ne0 c = search dirty_newer

pub returns-then-wrong_length : goal.returns-then-wrong_length
returns-then-wrong_length c = search dirty_length

pub returns-then-reserved-ne0 : goal.returns-then-reserved-ne0
returns-then-reserved-ne0 c = let m = c in
    let a = m.args in
    let u : c.reserved_fault-reserved.result ≡ first_of (reserved_at a.row a.body.now) 0 (length a.body.now) = c.reserved_fault-reserved.ensures in
    search (dirty_reserved, u)

pub returns : goal.returns
returns c = let m = c in
    let a = m.args in
    let u : c.reserved_fault-reserved.result ≡ first_of (reserved_at a.row a.body.now) 0 (length a.body.now) = c.reserved_fault-reserved.ensures in
    search (dirty_cue, u)
