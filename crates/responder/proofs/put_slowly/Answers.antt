-- `responder::put_slowly` meets its contract, by the two cases of an entry.
use mathlib.Core.Path.{◌≡◌}
use mathlib.Core.Bool.{true, false}
use Rattle.lent.proofs.Laws.{nothing}
use Rattle.layout.specs.Layout.{stored, flags}
use Rattle.responder.specs.inner.Index.{skips}
use Rattle.responder.proofs.Laws.{piece_none, piece_some}
use Rattle.responder.proofs.put_slowly.Goals as goal

pub returns-then-skipped : goal.returns-then-skipped
returns-then-skipped c = let a = c.args in
    let e : skips a.rt (flags (stored a.lay a.s.now) a.i) ≡ true = cc in
    rw (piece_none a.rt (stored a.lay a.s.now) a.i e) (nothing a.out.now a.at)

pub returns : goal.returns
returns c = let a = c.args in
    let e : skips a.rt (flags (stored a.lay a.s.now) a.i) ≡ false = cc in
    rw (piece_some a.rt (stored a.lay a.s.now) a.i e) c.put_entry.ensures
