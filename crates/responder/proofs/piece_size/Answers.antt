-- `responder::piece_size` meets its contract, by the two cases of an entry.
use mathlib.Core.Path.{◌≡◌, sym}
use mathlib.Core.Bool.{true, false}
use native.Mathlib.Omega.{arith}
use Rattle.layout.specs.Layout.{stored, flags}
use Rattle.responder.specs.inner.Index.{skips}
use Rattle.responder.proofs.Laws.{size_none, size_some}
use Rattle.responder.proofs.piece_size.Goals as goal

pub returns-then-skipped : goal.returns-then-skipped
returns-then-skipped c = let a = c.args in
    let e : skips a.rt (flags (stored a.lay a.s.now) a.i) ≡ true = cc in
    (sym (size_none a.rt (stored a.lay a.s.now) a.i e), omega arith)

pub returns : goal.returns
returns c = let a = c.args in
    let e : skips a.rt (flags (stored a.lay a.s.now) a.i) ≡ false = cc in
    let k = size_some a.rt (stored a.lay a.s.now) a.i e in
    (omega arith, omega arith)
