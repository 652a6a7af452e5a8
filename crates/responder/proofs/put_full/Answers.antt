-- `responder::put_full` meets its contract: three writings one after the other.
use Rattle.lent.proofs.Laws.{then}
use Rattle.responder.specs.inner.Index.{full_bytes}
use Rattle.responder.proofs.Laws.{header_bytes, zero_part_law}
use Rattle.responder.proofs.put_full.Goals as goal

pub returns : goal.returns
unfolding full_bytes
returns c = let early = c in
    let a = early.args in
    let list = early.profiles_part-list.ensures.holds in
    let head = header_bytes a.s.now a.p.size list early.current-profile.ensures early.data_length.ensures early.new-header.ensures in
    rw (← head, ← zero_part_law a.s.now a.p.sfn.0 early.profile_count-count.ensures list)
    (then (then early.put_header-a.ensures c.put_zero_part-b.ensures) c.put_pieces.ensures)
