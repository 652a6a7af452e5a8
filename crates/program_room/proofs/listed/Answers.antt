-- `program_room::listed` meets its contract: the text is as long as the longest listing. Assumes nothing.
use Rattle.std.proofs.Common.{arith}
use Rattle.listing.proofs.Longest.{listing_whole}
use Rattle.program_room.proofs.listed.Goals as goal

pub returns-clause-text_after : goal.returns-clause-text_after
returns-clause-text_after c =
    let a = c.args in
    let l = c.list in
    listing_whole a.s.now (λ j. omega (arith, c.type_inv.s j)) a.text.now l.new.out l.result (omega arith) l.ensures
